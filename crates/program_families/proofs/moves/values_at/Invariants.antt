use Rattle.std.proofs.Common.{◌≡◌, map, take}
use Rattle.algebra.specs.Fraction.{ℚ}
use Rattle.polynomials.specs.Terms.{value_at}
use Rattle.poly.specs.Seen.{terms_each}
use Rattle.program_families.specs.Moves.{fractions_in}
use Rattle.program_families.proofs.moves.values_at.Given as goal

abbrev pub invariant-loop-polynomial : goal.invariant-loop-polynomial
invariant-loop-polynomial l =
    fractions_in l.values.items
    ≡ map (λ p. value_at ℚ p (fractions_in l.point.items))
    (terms_each (take l.polynomial-index l.polynomials.items))
