use Rattle.std.proofs.Common.{◌≡◌, take, map}
use Rattle.algebra.specs.Fraction.{ℚ}
use Rattle.polynomials.specs.Terms.{coefficient}
use Rattle.solvable_maps.specs.Uses.{unit}
use Rattle.linear.specs.Rows.{fractions_of}
use Rattle.poly.specs.Seen.{terms_in}
use Rattle.closed_forms.proofs.linear_parts.linear_part.Given as goal

abbrev pub invariant-loop-variable : goal.invariant-loop-variable
invariant-loop-variable l = fractions_of l.row.items
    ≡ map (λ j. coefficient ℚ (terms_in l.poly) (unit l.poly.arity j))
    (take l.variable-index l.group)
