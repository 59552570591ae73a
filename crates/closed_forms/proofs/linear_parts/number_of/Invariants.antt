use Rattle.std.proofs.Common.{◌≡◌, ℕ, All, drop, length}
use Rattle.algebra.specs.Fraction.{ℚ}
use Rattle.polynomials.specs.Polynomial.{IsDistinct}
use Rattle.polynomials.specs.Terms.{coefficient}
use Rattle.solvable_maps.specs.Uses.{unit}
use Rattle.closed_forms.proofs.Mixing.{tell}
use Rattle.frac128.specs.FracMeaning.{fraction_of}
use Rattle.frac128.specs.declared.fraction.Frac.{Frac}
use Rattle.poly.specs.declared.Term.{Term}
use Rattle.closed_forms.proofs.linear_parts.number_of.Given as goal

abbrev pub invariant-loop-term : goal.invariant-loop-term
invariant-loop-term l = record {
  distinct : IsDistinct (tell (drop l.term-index l.terms));
  number : (m : ℕ) → All (λ (u : Term Frac). length u.mono ≡ m) l.terms → (x : Frac)
      → fraction_of x ≡ coefficient ℚ (tell (drop l.term-index l.terms)) (unit m l.variable)
      → fraction_of x ≡ coefficient ℚ (tell l.terms) (unit m l.variable);
}
