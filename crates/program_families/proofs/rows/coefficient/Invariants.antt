use Rattle.std.proofs.Common.{◌≡◌, drop}
use Rattle.algebra.specs.Fraction.{ℚ}
use Rattle.polynomials.specs.Order.{grevlex}
use Rattle.polynomials.specs.Polynomial.{Falls}
use Rattle.polynomials.specs.Terms.{coefficient}
use Rattle.frac128.specs.FracMeaning.{fraction_of}
use Rattle.poly.specs.Seen.{terms_in}
use Rattle.poly.specs.View.{terms_of}
use Rattle.program_families.proofs.rows.coefficient.Given as goal

abbrev pub invariant-loop-term : goal.invariant-loop-term
invariant-loop-term l =
    let left = terms_of fraction_of (drop l.term-index l.polynomial.terms.items) in
    record {
      same : coefficient ℚ (terms_in l.polynomial) l.monomial ≡ coefficient ℚ left l.monomial;
      falls : Falls grevlex left;
    }
