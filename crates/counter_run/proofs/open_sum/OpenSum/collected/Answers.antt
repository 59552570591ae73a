use Rattle.counter_run.proofs.OpenSums.{collected_with}
use Rattle.counter_run.proofs.open_sum.OpenSum.collected.Goals as goal

pub returns-in-Ok : goal.returns-in-Ok
returns-in-Ok c =
    collected_with c.args.self c.in-Ok.rest c.sum.result c.in-Ok.ensures.sum.same c.sum.ensures
