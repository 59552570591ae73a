use Rattle.divide.proofs.Refused.{unmade}
use Rattle.invariant_fix.specs.Closing.{test_of}
use Rattle.invariant_fix.proofs.Stepping.{ran_test}
use Rattle.invariant_fix.proofs.closing.closing_division.Goals as goal

pub returns-in_err-turned : goal.returns-in_err-turned
returns-in_err-turned c =
    record {
      ran =
          unmade (test_of c.args.branch.now c.args.element.now c.args.basis.now) _ _
          c.from_residual.ensures.1 c.in_err-turned.ensures.wide;
    }

pub returns : goal.returns
returns c = record {
  ran =
      ran_test c.args.branch.now c.args.element.now c.requires.some c.requires.images
      c.requires.count c.in_ok-turned.turned c.in_ok-turned.ensures.composition c.args.basis.now
      c.args.meter.now c.divide.new.meter _ c.divide.ensures.ran;
}
