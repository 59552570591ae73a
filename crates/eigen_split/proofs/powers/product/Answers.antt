use Rattle.std.proofs.Common.{ap, ◌∙◌}
use Rattle.eigen_split.specs.Ints.{ints, ints_of, times_columns}
use Rattle.eigen_split.proofs.Squares.{product_more}
use Rattle.eigen_split.proofs.powers.product.Goals as goal

pub loop-row-preserved : goal.loop-row-preserved
loop-row-preserved c =
    product_more (ints_of c.args.columns.now) c.args.rows.now c.loop-row.out.items
    c.push.new.self.items c.loop-row.row-index c.row-item.result c.in_ok-times.field-0
    c.loop-row-test.true c.row-item.is
    c.loop-row.invariant c.in_ok-push.ensures.items (c.in_ok-times.ensures
    ∙ ap (λ l. times_columns (ints_of c.args.columns.now) (ints l)) c.as_slice.ensures.value)
