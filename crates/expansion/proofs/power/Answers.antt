use Rattle.std.proofs.Common.{◌*◌, sym, arith, rules}
use native.Mathlib.Nat as N
use Rattle.expansion.proofs.Counting.{one_fits, power_of_one, none_above, some_is, raised_more, raised_past}
use Rattle.expansion.proofs.power.Goals as goal

pub returns-then-by-eq1 : goal.returns-then-by-eq1
returns-then-by-eq1 c = power_of_one c.args.by c.args.times (search rules)

pub loop-init : goal.loop-init
loop-init c = (sym (N.pow-zero c.args.by), one_fits)

pub returns-in_default : goal.returns-in_default
returns-in_default c =
    raised_past c.args.by c.loop.counter c.loop.found c.args.times c.requires c.loop-test.true
    c.loop.invariant.0
    (none_above (c.loop.found * c.args.by) c.product.result c.product.ensures
    c.in_default.not-Some)

pub loop-preserved : goal.loop-preserved
loop-preserved c =
    let next = some_is (c.loop.found * c.args.by) c.in-Some.next c.product.result c.product.ensures
    c.in-Some.is in (
      raised_more c.args.by c.loop.counter c.loop.found c.in-Some.next c.loop.invariant.0 next.0,
      omega (arith, next.0, next.1),
    )
