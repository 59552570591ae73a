use Rattle.std.proofs.Common.{rules}
use Rattle.eigen_split.proofs.Squares.{column_more}
use Rattle.eigen_split.proofs.powers.column.Goals as goal

pub loop-row-preserved : goal.loop-row-preserved
loop-row-preserved c =
    column_more c.args.j c.args.rows.now c.loop-row.out.items c.push.new.self.items
    c.loop-row.row-index c.row-item.result c.index.result.now c.whole.result
    c.loop-row-test.true c.row-item.is (search rules) c.index.ensures c.whole.ensures
    c.loop-row.invariant c.in_ok-push.ensures.items
