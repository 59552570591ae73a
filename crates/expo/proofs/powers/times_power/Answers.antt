use Rattle.std.proofs.Common.{◌≤◌, ◌*◌, ◌^◌, arith}
use Rattle.expo.proofs.Powering.{raised_next, raised_past}
use Rattle.expo.proofs.powers.times_power.Goals as goal

pub returns-in_default-clause-wide : goal.returns-in_default-clause-wide
returns-in_default-clause-wide c =
    let past : 2 ^ 128 ≤ c.loop.found * c.args.by = grind (
      arith,
      c.in_default.ensures,
      c.in_default.is,
      c.in_default.not-Some,
    ) in
    λ e. raised_past c.args.by c.args.number c.loop.counter c.loop.found c.args.times c.requires.by
    c.loop-test.true past c.loop.invariant

pub loop-preserved : goal.loop-preserved
loop-preserved c =
    let e = c.in-Some.ensures in
    raised_next c.args.by c.args.number c.loop.counter c.loop.found c.in-Some.product c.requires.by
    c.requires.number (grind (arith, e)) (grind (arith, e)) c.loop.invariant
