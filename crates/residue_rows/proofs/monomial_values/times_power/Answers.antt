use Rattle.std.proofs.Common.{pos}
use Rattle.residue_rows.specs.Modulus.{modulus}
use Rattle.residue_rows.specs.Numbers.{number_of}
use Rattle.residue_rows.proofs.Powers.{power_begins, power_goes, power_ends}
use Rattle.residue_rows.proofs.monomial_values.times_power.Goals as goal

pub loop-time-init : goal.loop-time-init
loop-time-init c =
    power_begins (pos modulus) (number_of c.args.number) (number_of c.args.base.now)
    c.args.exponent

pub loop-time-preserved : goal.loop-time-preserved
loop-time-preserved c =
    power_goes (pos modulus) (number_of c.loop-time.product) (number_of c.args.base.now)
    c.args.exponent c.loop-time._time c.loop-time-test.true c.mul-product.ensures
    c.loop-time.invariant

pub returns : goal.returns
returns c =
    power_ends (pos modulus) _ _
    c.args.exponent c.loop-time._time c.loop-time-test.false c.loop-time.invariant
