use Rattle.std.proofs.Common.{refl}
use Rattle.frac128.specs.FracMeaning.{fraction_of}
use Rattle.expo.proofs.AtIterations.{power_none, power_next, power_past}
use Rattle.expo.proofs.points.power.Goals as goal

pub loop-init : goal.loop-init
loop-init c = power_none (fraction_of c.args.number.now) _ c.one-found.ensures

pub returns-in_err-found-clause-wide : goal.returns-in_err-found-clause-wide
returns-in_err-found-clause-wide c = λ e. power_past (fraction_of c.args.number.now)
    (fraction_of c.loop.found) c.loop.counter c.args.exponent c.loop.invariant c.loop-test.true
    (c.in_err-found.ensures.wide.0 refl)

pub loop-preserved : goal.loop-preserved
loop-preserved c = power_next (fraction_of c.args.number.now) (fraction_of c.loop.found) _
    c.loop.counter c.loop.invariant c.in_ok-found.ensures.ok
