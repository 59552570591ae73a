use Rattle.std.proofs.Common.{map, length, get_or, Vec, Global}
use Rattle.algebra.specs.Fraction.{ℚ}
use Rattle.polynomials.specs.Terms.{coefficient}
use Rattle.solvable_maps.specs.Uses.{poly_at, unit}
use Rattle.frac128.specs.declared.fraction.Frac.{Frac}
use Rattle.linear.specs.Rows.{fractions_of}
use Rattle.poly.specs.Seen.{terms_each}
use Rattle.closed_forms.proofs.Alone.{made_next, part_is}
use Rattle.closed_forms.proofs.square_map.SquareMap.class_matrix.Goals as goal

pub loop-variable-preserved : goal.loop-variable-preserved
loop-variable-preserved c =
    let images = c.args.self.now.images.now.items in
    let g = c.args.group.now in
    let i = c.loop-variable.variable-index in
    made_next (λ (row : Vec Frac Global). fractions_of row.items) (λ i. map (λ j. coefficient ℚ
    (poly_at (terms_each images) i) (unit (length (terms_each images)) j)) g) g i _
    c.in_ok-linear_part.field-0 c.loop-variable-test.true c.loop-variable.invariant
    c.in_ok-push.ensures.items (part_is images g (get_or g i 0)
    (c.requires i 0 c.loop-variable-test.true) c.index.ensures c.args.self.now.square
    c.in_ok-linear_part.ensures)
