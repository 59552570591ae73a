use Rattle.std.proofs.Common.{arith}
use Rattle.complete.proofs.Sugars.{sum_divides}
use Rattle.complete.proofs.pair_keys.sugar_at.Goals as goal

pub overflow_sub-result : goal.overflow_sub-result
overflow_sub-result c =
    let below = sum_divides c.args.lead.now c.args.multiple.now c.requires.same
    c.requires.multiple in
    let total = c.degree.ensures in
    let own = c.degree-2.ensures in
    omega (arith, below, total, own)
