use Rattle.std.proofs.Common.{negsuc}
use Rattle.algebra.specs.Fraction.{whole}
use Rattle.frac128.specs.FracMeaning.{fraction_of}
use Rattle.expo.proofs.AtIterations.{power_none, sign_next}
use Rattle.expo.proofs.points.sign.Goals as goal

pub loop-init : goal.loop-init
loop-init c = power_none (whole (negsuc 0)) _ c.one-found.ensures

pub loop-preserved : goal.loop-preserved
loop-preserved c = sign_next (fraction_of c.loop.found) _ c.loop.counter c.loop.invariant
    c.neg-found.ensures
