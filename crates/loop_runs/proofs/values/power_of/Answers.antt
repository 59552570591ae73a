use Rattle.std.proofs.Common.{◌∙◌, refl, ap, Some}
use Rattle.std.proofs.lemmas.Result.{err_from_is_err_and}
use Rattle.loop_runs.proofs.CheckedValues.{power-zero}
use Rattle.loop_runs.proofs.values.power_of.Goals as goal
use Rattle.loop_runs.proofs.Operations.{power_stops, power_goes_on}

pub loop-iteration-init : goal.loop-iteration-init
loop-iteration-init c = ap Some c.one-product.ensures ∙ power-zero _

pub loop-iteration-preserved : goal.loop-iteration-preserved
loop-iteration-preserved c = power_goes_on c.mul.result _ _ _ _ c.loop-iteration.invariant
    c.in_ok-product.was
    c.mul.ensures.ok c.mul.ensures.wide

pub returns-in_err-product : goal.returns-in_err-product
returns-in_err-product c =
    let p = err_from_is_err_and c.from_residual.result c.from_residual.ensures.1 in
    rw p.1 (power_stops c.mul.result _ _ _ _ c.loop-iteration.invariant c.loop-iteration-test.true
    (rw c.in_err-product.was refl) c.mul.ensures.ok c.mul.ensures.wide)
