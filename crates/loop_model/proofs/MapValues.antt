-- The values at a state of what stands for a map.
--   values_at_state      those of polynomials that stand for others
use Rattle.std.proofs.Common.{◌≡◌, ℕ, List, [], ◌∷◌, map, refl, ap₂}
use Rattle.algebra.specs.Fraction.{Fraction, ℚ}
use Rattle.algebra.proofs.Fractions.{ℚ_ring}
use Rattle.polynomials.specs.Terms.{Terms, value_at}
use Rattle.polynomials.proofs.ValueAt.{value_at_same}
use Rattle.poly.specs.Seen.{terms_in}
use Rattle.poly.specs.Standing.{AllStandFor}
use Rattle.loop_model.specs.FracPoly.{FracPoly}

pub values_at_state : (m : ℕ) (ps : List FracPoly) (qs : List (Terms Fraction)) (s : List Fraction)
    → AllStandFor m ps qs → map (λ (p : FracPoly). value_at ℚ (terms_in p) s) ps
    ≡ map (λ q. value_at ℚ q s) qs
values_at_state m [] [] s h = refl
values_at_state m [] (q ∷ qs) s h = absurd h
values_at_state m (p ∷ ps) [] s h = absurd h
values_at_state m (p ∷ ps) (q ∷ qs) s h = ap₂ ◌∷◌ (value_at_same ℚ_ring (terms_in p) q s h.0.same)
    (values_at_state m ps qs s h.1)
