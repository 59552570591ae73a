use Rattle.linear.specs.Rows.{fractions_of, rows_of}
use Rattle.solvable_maps.specs.Inverse.{IsProduct}
use Rattle.closed_forms.proofs.products.row_times.Given as goal

abbrev pub invariant-loop-column : goal.invariant-loop-column
invariant-loop-column l = IsProduct l.column (fractions_of l.row) (rows_of l.matrix)
    (fractions_of l.out.items)
