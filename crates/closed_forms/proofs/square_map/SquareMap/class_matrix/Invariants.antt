use Rattle.std.proofs.Common.{◌≡◌, take, map, length}
use Rattle.algebra.specs.Fraction.{ℚ}
use Rattle.polynomials.specs.Terms.{coefficient}
use Rattle.solvable_maps.specs.Uses.{poly_at, unit}
use Rattle.linear.specs.Rows.{rows_of}
use Rattle.closed_forms.specs.SquareMap.{polys_by}
use Rattle.closed_forms.proofs.square_map.SquareMap.class_matrix.Given as goal

abbrev pub invariant-loop-variable : goal.invariant-loop-variable
invariant-loop-variable l = rows_of l.matrix.items
    ≡ map (λ i. map (λ j. coefficient ℚ (poly_at (polys_by l.self) i)
    (unit (length (polys_by l.self)) j)) l.group) (take l.variable-index l.group)
