use Rattle.std.proofs.Common.{refl}
use Rattle.frac128.specs.FracMeaning.{fraction_of}
use Rattle.linear.proofs.Lists.{scaled-past, scaled_more}
use Rattle.linear.proofs.rows.scaled_of.Goals as goal

pub returns-in_err-mul-clause-wide : goal.returns-in_err-mul-clause-wide
returns-in_err-mul-clause-wide c =
    λ e. scaled-past c.args.row.now _ c.args.by.now c.loop-number-test.true c.number-item.is
    (c.in_err-mul.ensures.wide.0 refl)

pub loop-number-preserved : goal.loop-number-preserved
loop-number-preserved c =
    scaled_more (fraction_of c.args.by.now) c.args.row.now _ _ c.in_ok-mul.field-0
    c.loop-number-test.true c.number-item.is c.in_ok-mul.ensures.ok c.in_ok-push.ensures.items
    c.loop-number.invariant
