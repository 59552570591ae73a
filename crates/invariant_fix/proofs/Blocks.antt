-- Polynomials of the code in graded reverse lexicographic order.
--   graded_polynomial      they are polynomials in their order
use Rattle.std.proofs.Common.{◌≡◌, ℕ, subst}
use Rattle.algebra.specs.Fraction.{ℚ}
use Rattle.polynomials.specs.Order.{grevlex}
use Rattle.polynomials.specs.Polynomial.{IsPolynomial}
use Rattle.poly.specs.Seen.{terms_in}
use Rattle.loop_model.specs.FracPoly.{FracPoly}

pub graded_polynomial : (m : ℕ) (p : FracPoly) → p.arity ≡ m → IsPolynomial ℚ grevlex m (terms_in p)
graded_polynomial m p e = subst (λ n. IsPolynomial ℚ grevlex n (terms_in p)) e p.polynomial
