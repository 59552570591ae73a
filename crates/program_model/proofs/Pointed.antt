-- Points as they are formed.
--   points_length, points_joined, point_more     there are as many as marks; some behind others; one more
--   goal_formed                                  a side at the variables is the difference of the sides
--   state_over, state_arity, state_length        the variables that may be anything
use Rattle.std.proofs.Common.{◌≡◌, ℕ, suc, List, [], ◌∷◌, ◌++◌, length, refl, sym, ap, subst, ◌∙◌, All, Result, Ok, Err}
use Rattle.std.proofs.lemmas.List.Elements.{All-head}
use Rattle.algebra.specs.Fraction.{ℚ}
use Rattle.polynomials.specs.Terms.{variables}
use Rattle.loops.specs.Effect.{value_of}
use Rattle.loops.proofs.Maps.{length-variables}
use Rattle.flows.specs.Sides.{difference}
use Rattle.poly.specs.Seen.{arity_of}
use Rattle.poly.specs.Standing.{IsInVariables, StandsFor, AllStandFor}
use Rattle.poly.proofs.Standing.{stands_over, stands_length}
use Rattle.loop_model.specs.FracPoly.{FracPoly}
use Rattle.loop_model.specs.Operations.{value, operations}
use Rattle.loop_model.specs.Stops.{Forms}
use Rattle.loop_model.specs.declared.map_error.MapError.{MapError}
use Rattle.program_model.specs.Program.{Comparison, Mark}
use Rattle.program_model.specs.Events.{Makes}
use Rattle.program_model.specs.PathEvents.{E, side, goal_events}
use Rattle.program_model.specs.Points.{IsPoint, ArePoints}
use Rattle.program_model.specs.declared.graph.Point.{Point}
use Rattle.program_model.proofs.EventLaws.{free_events, stops_events}

pub points_length : (n : ℕ) (ms : List (Mark E)) (ps : List Point) → ArePoints n ms ps
    → length ms ≡ length ps
points_length n [] [] h = refl
points_length n [] (p ∷ ps) h = absurd h
points_length n (m ∷ ms) [] h = absurd h
points_length n (m ∷ ms) (p ∷ ps) h = ap suc (points_length n ms ps h.1)

points_joined : (n : ℕ) (ms ks : List (Mark E)) (ps qs : List Point) → ArePoints n ms ps
    → ArePoints n ks qs → ArePoints n (ms ++ ks) (ps ++ qs)
points_joined n [] ks [] qs h k = k
points_joined n [] ks (p ∷ ps) qs h k = absurd h
points_joined n (m ∷ ms) ks [] qs h k = absurd h
points_joined n (m ∷ ms) ks (p ∷ ps) qs h k = (h.0, points_joined n ms ks ps qs h.1 k)

pub point_more : (n : ℕ) (ms : List (Mark E)) (m : Mark E) (ps qs : List Point) (p : Point)
    → qs ≡ ps ++ p ∷ [] → ArePoints n ms ps → IsPoint n m p → ArePoints n (ms ++ m ∷ []) qs
point_more n ms m ps qs p e h k =
    subst (ArePoints n (ms ++ m ∷ [])) (sym e)
    (points_joined n ms (m ∷ []) ps (p ∷ []) h (k, tt))

-- ---- goals
goal_here : (n : ℕ) (k : Comparison E)
    → value n (variables ℚ n) (side k) ≡ difference n k.left k.right
unfolding value_of difference
goal_here n k = refl

pub goal_formed : (n : ℕ) (k : Comparison E) (r : Result FracPoly MapError)
    → Forms n (operations n (variables ℚ n) (side k)) (value n (variables ℚ n) (side k)) r
    → Makes (goal_events n k) (λ g. StandsFor n g (difference n k.left k.right)) r
goal_formed n k (Ok g) h = (
  subst (StandsFor n g) (goal_here n k) h.0,
  free_events n (operations n (variables ℚ n) (side k)) h.1,
)
goal_formed n k (Err e) h = stops_events n (operations n (variables ℚ n) (side k)) e h

module _ (n : ℕ) (ps : List FracPoly) (h : AllStandFor n ps (variables ℚ n)) where
  pub state_length : length ps ≡ n
  state_length = stands_length n ps (variables ℚ n) h ∙ length-variables n

  pub state_arity : arity_of ps ≡ n
  state_arity = go ps (stands_over n ps (variables ℚ n) h) state_length
    where
      go : (qs : List FracPoly) → All (IsInVariables n) qs → length qs ≡ n → arity_of qs ≡ n
      go [] k l = l
      go (q ∷ qs) k l = All-head (IsInVariables n) q qs k

  pub state_over : All (IsInVariables (arity_of ps)) ps
  state_over = subst (λ m. All (IsInVariables m) ps) (sym state_arity)
      (stands_over n ps (variables ℚ n) h)
