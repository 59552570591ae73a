-- Inverses, and sides, as they are formed.
--   formed_along           what is formed at polynomials is formed at those that they stand for
--   less_one_product, less_one_is        the operators of an inverse
--   side_left, side_right, side_is    those of a comparison
--   unknown_is             the new unknown
--   invert_stops, invert_free         what is done for it
use Rattle.std.proofs.Common.{◌≡◌, ◌<◌, arith, ℕ, suc, pos, List, [], ◌∷◌, get_or, refl, sym, subst, ◌∙◌, Result, Ok, Err, Option, Some, None}
use Rattle.std.specs.Prelude.{slice_get, IsSomeAnd}
use Rattle.std.specs.Result.{IsErrAnd}
use Rattle.std.proofs.lemmas.Option.{get_or_from_slice_get}
use Rattle.std.proofs.lemmas.List.Elements.{All-nil, All-head}
use Rattle.algebra.specs.Fraction.{Fraction, ℚ}
use Rattle.polynomials.specs.Terms.{Terms, Same, constant, variables}
use Rattle.polynomials.proofs.Same.{Same-refl}
use Rattle.loops.specs.Program as loops
use Rattle.loops.specs.Program.{Expr}
use Rattle.poly.specs.Seen.{Is, terms_in, terms_each, arity_of}
use Rattle.poly.specs.Standing.{StandsFor, AllStandFor}
use Rattle.loop_model.specs.FracPoly.{FracPoly}
use Rattle.loop_model.specs.Operations.{value, operations, product_at, difference_at, IsFree, PassesLimit}
use Rattle.loop_model.specs.Stops.{Forms, Does, Stops, IsValueAt, IsFreeAt, StopsAt}
use Rattle.loop_model.specs.declared.map_error.MapError.{MapError}
use Rattle.loop_model.proofs.StateLaws.{formed_value, formed_free, formed_stop}
use Rattle.loop_model.proofs.FormedLaws.{StandsIn, formed_number, formed_variable, stops_left}
use Rattle.loop_model.proofs.FormedLaws as formed
use Rattle.loop_model.proofs.OperationLaws as one
use Rattle.monos.specs.declared.order.Grevlex.{Grevlex}
use Rattle.program_model.specs.Events.{counts, all_formed, IsPastLimit, AreFree, Makes}
use Rattle.program_model.specs.Inverses.{IsInverse}
use Rattle.program_model.specs.declared.inverse.Inverse.{Inverse}
use Rattle.program_model.specs.PathEvents.{less_one, unknown_at, most_unknowns, inverse_events}
use Rattle.program_model.proofs.EventLaws.{free_events, stops_events, free_append, stops_behind, count_free, handed_on}

-- ---- the inverse
module _ (m at : ℕ) (y h : Terms Fraction) (p q : FracPoly) (py : StandsFor m p y)
    (qh : StandsFor m q h) where
  abbrev s : List (Terms Fraction)
  s = y ∷ h ∷ []

  none_free : IsFree m []
  none_free = All-nil (λ o. ¬ (PassesLimit m o))

  left : StandsIn m s (loops.variable 0) p
  left = formed_variable m s 0 (Ok p) (py, none_free)

  right : StandsIn m s (loops.variable 1) q
  right = formed_variable m s 1 (Ok q) (qh, none_free)

  pub product_is : (r : Result FracPoly MapError)
      → Does p.arity (product_at at (terms_in p) (terms_in q)) r
      → Forms m (operations m s (loops.mul at (loops.variable 0) (loops.variable 1)))
      (value m s (loops.mul at (loops.variable 0) (loops.variable 1))) r
  product_is r d = formed.formed_mul m s at (loops.variable 0) (loops.variable 1) p q left right r
      (subst (λ k. Does k (product_at at (terms_in p) (terms_in q)) r) py.arity d)

  pub less_one_stops : (e : MapError) (r : Result FracPoly MapError) → IsErrAnd r (λ x. x ≡ e)
      → Does p.arity (product_at at (terms_in p) (terms_in q)) (Err e)
      → Forms m (operations m s (less_one at)) (value m s (less_one at)) r
  less_one_stops e r is d =
      let xy = loops.mul at (loops.variable 0) (loops.variable 1) in
      one.handed_on m (operations m s (less_one at)) (value m s (less_one at)) e r is
      (formed.stopped_sub m s at xy (loops.number (pos 1)) e
      (stops_left m s xy (loops.number (pos 1)) e (product_is (Err e) d)))

  pub less_one_is : (t u : FracPoly) (o : Grevlex) (k : ℕ) (r : Result FracPoly MapError)
      → Does p.arity (product_at at (terms_in p) (terms_in q)) (Ok t) → k ≡ t.arity
      → Is o k (constant k ℚ.one) u
      → Does t.arity (difference_at at (terms_in t) (terms_in u)) r
      → Forms m (operations m s (less_one at)) (value m s (less_one at)) r
  less_one_is t u o k r d e i f =
      let xy = loops.mul at (loops.variable 0) (loops.variable 1) in
      let x = product_is (Ok t) d in
      let there : k ≡ m = e ∙ x.0.arity in
      let number : StandsIn m s (loops.number (pos 1)) u =
      formed_number m s (pos 1) (Ok u) (
        record {
          order = refl;
          arity = i.arity ∙ there;
          same = subst (λ k. Same ℚ (terms_in u) (constant k ℚ.one)) there i.same;
        },
        none_free,
      ) in
      formed.formed_sub m s at xy (loops.number (pos 1)) t u x number r
      (subst (λ k. Does k (difference_at at (terms_in t) (terms_in u)) r) x.0.arity f)

-- ---- what is formed at polynomials that stand for others
pub formed_along : (m : ℕ) (ps : List FracPoly) (qs : List (Terms Fraction))
    → AllStandFor m ps qs → arity_of ps ≡ m → (e : Expr ℕ) (r : Result FracPoly MapError)
    → Forms (arity_of ps) (operations (arity_of ps) (terms_each ps) e)
    (value (arity_of ps) (terms_each ps) e) r
    → Forms m (operations m qs e) (value m qs e) r
formed_along m ps qs h a e (Ok p) k = (
  formed_value m ps qs h (arity_of ps) a e p k.0,
  formed_free m ps qs h (arity_of ps) a e k.1,
)
formed_along m ps qs h a e (Err x) k = formed_stop m ps qs h (arity_of ps) a e x k

-- ---- sides
module _ (m at : ℕ) (ps : List FracPoly) (qs : List (Terms Fraction)) (arity : arity_of ps ≡ m)
    (h : AllStandFor m ps qs) (e f : Expr ℕ) where
  abbrev d : Expr ℕ
  d = loops.sub at e f

  pub side_left : (x : MapError) (r : Result FracPoly MapError) → IsErrAnd r (λ y. y ≡ x)
      → StopsAt ps e x → Forms m (operations m qs d) (value m qs d) r
  side_left x r is k =
      one.handed_on m (operations m qs d) (value m qs d) x r is
      (formed.stopped_sub m qs at e f x (stops_left m qs e f x
      (formed_stop m ps qs h (arity_of ps) arity e x k)))

  module _ (p : FracPoly) (pv : IsValueAt ps e p) (pf : IsFreeAt ps e) where
    left_is : StandsIn m qs e p
    left_is = formed_along m ps qs h arity e (Ok p) (pv, pf)

    pub side_right : (x : MapError) (r : Result FracPoly MapError) → IsErrAnd r (λ y. y ≡ x)
        → StopsAt ps f x → Forms m (operations m qs d) (value m qs d) r
    side_right x r is k =
        one.handed_on m (operations m qs d) (value m qs d) x r is
        (formed.stopped_sub m qs at e f x (formed.stops_right m qs e f p x left_is
        (formed_stop m ps qs h (arity_of ps) arity f x k)))

    pub side_is : (q : FracPoly) → IsValueAt ps f q → IsFreeAt ps f
        → (r : Result FracPoly MapError)
        → Does p.arity (difference_at at (terms_in p) (terms_in q)) r
        → Forms m (operations m qs d) (value m qs d) r
    side_is q qv qf r k =
        formed.formed_sub m qs at e f p q left_is (formed_along m ps qs h arity f (Ok q) (qv, qf)) r
        (subst (λ i. Does i (difference_at at (terms_in p) (terms_in q)) r) left_is.0.arity k)

-- ---- the unknown
unknown_stands : (m i : ℕ) (o : Grevlex) (q : FracPoly) (x : Option (Terms Fraction))
    → slice_get (variables ℚ m) i ≡ x → IsSomeAnd x (λ v. Is o m v q)
    → StandsFor m q (get_or (variables ℚ m) i [])
unknown_stands m i o q None e h = absurd h
unknown_stands m i o q (Some v) e h = record {
  order = refl;
  arity = h.arity;
  same = subst (Same ℚ (terms_in q)) (sym (get_or_from_slice_get (variables ℚ m) i v [] e)) h.same;
}

pub unknown_is : (k m i : ℕ) (o : Grevlex) (q : FracPoly) → k ≡ m
    → IsSomeAnd (slice_get (variables ℚ k) i) (λ v. Is o k v q)
    → StandsFor m q (unknown_at m i)
unknown_is k m i o q e h = subst (λ n. StandsFor n q (unknown_at n i)) e
    (unknown_stands k i o q (slice_get (variables ℚ k) i) refl h)

-- ---- the unknown with its zero
module _ (m at i : ℕ) (h : Terms Fraction) where
  abbrev ys : List (Terms Fraction)
  ys = unknown_at m i ∷ h ∷ []

  pub invert_stops : (small : ¬ (most_unknowns < suc i)) (x : MapError) {X : Type 0}
      (P : X → Type 0) (r : Result X MapError) → IsErrAnd r (λ y. y ≡ x)
      → Stops m (operations m ys (less_one at)) x → Makes (inverse_events m at i h) P r
  invert_stops small x P r is k =
      handed_on (inverse_events m at i h) P x r is
      (stops_behind (counts at (suc i) most_unknowns ∷ [])
      (all_formed m (operations m ys (less_one at))) x
      (count_free at (suc i) most_unknowns small)
      (stops_events m (operations m ys (less_one at)) x k))

  pub invert_free : (small : ¬ (most_unknowns < suc i)) → IsFree m (operations m ys (less_one at))
      → AreFree (inverse_events m at i h)
  invert_free small f =
      free_append (counts at (suc i) most_unknowns ∷ [])
      (all_formed m (operations m ys (less_one at)))
      (count_free at (suc i) most_unknowns small)
      (free_events m (operations m ys (less_one at)) f)

-- ---- what is known of it in any case
pub self_stands : (v : FracPoly) → StandsFor v.arity v (terms_in v)
self_stands v = record { order = refl; arity = refl; same = Same-refl ℚ (terms_in v) }

pub record IsNew (v : FracPoly) (i : ℕ) (y : Inverse) : Type 0 where
  pub unknown : y.unknown.arity ≡ v.arity
  pub zero : y.zero.arity ≡ v.arity
  pub few : i < most_unknowns

pub inverse_new : (v : FracPoly) (at i : ℕ) (y : Inverse)
    → ((h : Terms Fraction) → StandsFor v.arity v h
    → Makes (inverse_events v.arity at i h) (IsInverse v.arity at i h) (Ok y)) → IsNew v i y
unfolding IsPastLimit
inverse_new v at i y f =
    let k = f (terms_in v) (self_stands v) in
    let g : ¬ (most_unknowns < suc i) =
    All-head (λ e. ¬ (IsPastLimit e)) (counts at (suc i) most_unknowns) _ k.1 in
    record { unknown = k.0.unknown.arity; zero = k.0.zero.arity; few = omega (arith, g) }
