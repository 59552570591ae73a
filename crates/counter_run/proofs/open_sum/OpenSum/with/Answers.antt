use Rattle.std.proofs.Common.{refl}
use Rattle.counter_run.proofs.OpenSums.{added}
use Rattle.counter_run.proofs.open_sum.OpenSum.with.Goals as goal

pub returns : goal.returns
returns c =
    added c.args.self c.args.polynomial _ c.in_ok-total.total c.in_ok-sum.field-0
    c.in_ok-total.ensures c.in_ok-sum.ensures refl c.new.ensures.items
    c.with_terms_of-came.ensures
