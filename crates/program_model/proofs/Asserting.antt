-- Forming behind an assertion.
--   assert_goal, assert_closes         where it stops, part by part
--   assert_free, assert_front          and where it comes to
use Rattle.std.proofs.Common.{◌≡◌, ℕ, suc, List, [], ◌∷◌, ◌++◌, map, length, refl, sym, subst}
use Rattle.std.proofs.lemmas.List.{append-nil}
use Rattle.flows.specs.Chart as chart
use Rattle.flows.specs.Chart.{Edge, closed}
use Rattle.loop_model.specs.declared.map_error.MapError.{MapError}
use Rattle.program_model.specs.Program.{Comparison, Mark, assert}
use Rattle.program_model.specs.Code.{code_before}
use Rattle.program_model.specs.Events.{Event, AreFree, Stops}
use Rattle.program_model.specs.PathEvents.{E, goal_events}
use Rattle.program_model.specs.Forming.{assert_mark, marks_in, exits_in, edges_in, closings, statement_events}
use Rattle.program_model.specs.Points.{ArePoints}
use Rattle.program_model.specs.UnderWay.{AreOpen}
use Rattle.program_model.specs.Fronts.{IsFront, AreEdges}
use Rattle.program_model.specs.declared.front.Front.{Front}
use Rattle.program_model.proofs.EventLaws.{free_append, stops_front, stops_behind}
use Rattle.program_model.proofs.Moving.{O}

module _ (n at : ℕ) (k : Comparison E) (ps : List (Mark E)) (es : List (Edge E)) (os : List O) where
  abbrev G : List Event
  G = goal_events n k

  abbrev L : List Event
  L = closings at (length es) os

  events : G ++ L ≡ statement_events n (suc (length ps)) (length es) (assert at k) os
  unfolding statement_events
  events = refl

  abbrev Total : MapError → Type 0
  Total x = Stops (statement_events n (suc (length ps)) (length es) (assert at k) os) x

  pub assert_goal : (x : MapError) → Stops G x → Total x
  assert_goal x h = subst (λ es. Stops es x) events (stops_front G L x h)

  module _ (fg : AreFree G) where
    pub assert_closes : (x : MapError) → Stops L x → Total x
    assert_closes x h = subst (λ es. Stops es x) events (stops_behind G L x fg h)

    pub assert_free : AreFree L
        → AreFree (statement_events n (suc (length ps)) (length es) (assert at k) os)
    assert_free fl = subst AreFree events (free_append G L fg fl)

  pub assert_front : (h : Front) → ArePoints n (ps ++ assert_mark at k ∷ []) h.points.items
      → AreEdges n (es ++ map (closed (suc (length ps))) os) h.transitions.items
      → AreOpen n os h.paths.items
      → IsFront n (ps ++ marks_in (assert at k))
      (es ++ edges_in (suc (length ps)) (assert at k) os)
      (exits_in (suc (length ps)) (assert at k) os) h
  unfolding marks_in code_before chart.exits chart.edges
  assert_front h p e o = record {
    points = p;
    edges = subst (λ xs. AreEdges n (es ++ xs) h.transitions.items)
        (sym (append-nil (map (closed (suc (length ps))) os))) e;
    paths = o;
  }
