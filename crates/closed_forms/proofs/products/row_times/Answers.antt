use Rattle.linear.specs.Rows.{fractions_of, rows_of}
use Rattle.closed_forms.proofs.Rows.{product_next}
use Rattle.closed_forms.proofs.products.row_times.Goals as goal

pub loop-column-preserved : goal.loop-column-preserved
loop-column-preserved c = product_next (fractions_of c.args.row.now)
    (rows_of c.args.matrix.now) _ c.in_ok-dot.field-0
    c.loop-column.invariant c.in_ok-push.ensures.items c.in_ok-dot.ensures.sum
