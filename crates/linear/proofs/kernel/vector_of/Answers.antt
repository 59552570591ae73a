use Rattle.linear.proofs.Kernels.{row_more}
use Rattle.linear.proofs.kernel.vector_of.Goals as goal

pub loop-i-preserved : goal.loop-i-preserved
loop-i-preserved c =
    row_more _ c.args.column c.args.width c.loop-i.i _ c.entry_of.result
    c.loop-i-test.true c.entry_of.ensures c.in_ok-push.ensures.items c.loop-i.invariant
