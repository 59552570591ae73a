use Rattle.linear.proofs.Clearing.{cleared_more}
use Rattle.linear.proofs.adding.cleared_of.Goals as goal

pub loop-target-preserved : goal.loop-target-preserved
loop-target-preserved c =
    cleared_more c.args.column _ c.args.rows.now _ _ c.in-Ok.row c.loop-target-test.true
    c.index-rows-target.is c.in-Ok.ensures.row c.in_ok-push-in-Ok.ensures.items
    c.loop-target.invariant
