-- The partial powers of a polynomial, one after another.
--   power_none         the first, with no operation
--   power_more         one more
--   power_stop         a stop at one of them
use Rattle.std.proofs.Common.{◌≡◌, ℕ, zero, suc, ◌+◌, ◌-◌, ◌<◌, [], arith, refl, subst, Result, Ok, Err}
use Rattle.algebra.specs.Arithmetic.{power}
use Rattle.algebra.specs.Fraction.{Fraction, ℚ}
use Rattle.algebra.proofs.Fractions.{ℚ_ring}
use Rattle.polynomials.specs.Terms.{Terms, constant}
use Rattle.polynomials.proofs.Same.{Same-refl, same_times}
use Rattle.poly.specs.Seen.{terms_in}
use Rattle.poly.specs.Standing.{StandsFor}
use Rattle.loop_model.specs.FracPoly.{FracPoly}
use Rattle.loop_model.specs.Operations.{IsFree, product_at, partial_powers, power_of}
use Rattle.loop_model.specs.Stops.{Stops, Forms, Does}
use Rattle.loop_model.specs.declared.map_error.MapError.{MapError}
use Rattle.loop_model.proofs.OperationLaws.{SameOperation, stops_front, does_last}

module _ (m at : ℕ) (q : Terms Fraction) where
  abbrev pub Raised : ℕ → FracPoly → Type 0
  Raised k p = StandsFor m p (power_of m q k) × IsFree m (partial_powers m at q k)

  pub power_none : (p : FracPoly) → Forms m [] (constant m ℚ.one) (Ok p) → Raised 0 p
  unfolding power partial_powers
  power_none p h = h

  stops_more : (k d : ℕ) (e : MapError) → Stops m (partial_powers m at q k) e
      → Stops m (partial_powers m at q (k + d)) e
  unfolding partial_powers
  stops_more k zero e h = let same : k ≡ k + 0 = omega arith in
      subst (λ n. Stops m (partial_powers m at q n) e) same h
  stops_more k (suc d) e h = let same : suc (k + d) ≡ k + suc d = omega arith in
      subst (λ n. Stops m (partial_powers m at q n) e) same
      (stops_front m (partial_powers m at q (k + d)) _ e (stops_more k d e h))

  module _ (k : ℕ) (p : FracPoly) (h : Raised k p) where
    same_product : SameOperation (product_at at q (terms_in p)) (product_at at q (power_of m q k))
    same_product = record {
      at = refl;
      kind = refl;
      left = Same-refl ℚ q;
      right = h.0.same;
      result = same_times ℚ_ring (Same-refl ℚ q) h.0.same;
    }

    raise : (r : Result FracPoly MapError) → Does m (product_at at q (terms_in p)) r
        → Forms m (partial_powers m at q (suc k)) (power_of m q (suc k)) r
    unfolding power partial_powers
    raise r d = does_last m (partial_powers m at q k) (product_at at q (terms_in p))
        (product_at at q (power_of m q k)) r h.1 same_product d

    pub power_more : (s : FracPoly) → Does m (product_at at q (terms_in p)) (Ok s)
        → Raised (k + 1) s
    power_more s d = let same : suc k ≡ k + 1 = omega arith in
        subst (λ n. Raised n s) same (raise (Ok s) d)

    pub power_stop : (n : ℕ) (e : MapError) → k < n → Does m (product_at at q (terms_in p)) (Err e)
        → Stops m (partial_powers m at q n) e
    power_stop n e l d = let same : suc k + (n - suc k) ≡ n = omega arith in
        subst (λ j. Stops m (partial_powers m at q j) e) same (stops_more (suc k) (n - suc k) e
        (raise (Err e) d))
