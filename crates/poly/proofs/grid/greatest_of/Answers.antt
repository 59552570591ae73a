use Rattle.std.proofs.Common.{◌≤◌, get_or, subst, arith}
use Rattle.std.specs.List.{All}
use Rattle.std.proofs.lemmas.Grind.{common_steps}
use Rattle.std.proofs.lemmas.List.{take_all}
use Rattle.poly.proofs.GridSteps.{raised}
use Rattle.poly.proofs.grid.greatest_of.Goals as goal

pub loop-exponent-preserved : goal.loop-exponent-preserved
loop-exponent-preserved c =
    let more : c.loop-exponent.top ≤ c.max-top.result = grind (arith, common_steps) in
    let here : get_or c.args.exponents.now c.loop-exponent.exponent-index 0 ≤ c.max-top.result =
    grind (arith, common_steps) in
    raised (λ e. e ≤ c.loop-exponent.top) (λ e. e ≤ c.max-top.result) (λ e h. omega (arith, more))
    c.args.exponents.now c.loop-exponent.exponent-index 0 (omega arith) here
    c.loop-exponent.invariant

pub returns : goal.returns
returns c = subst (All (λ e. e ≤ c.loop-exponent.top)) (take_all _ _ c.loop-exponent-test.false)
    c.loop-exponent.invariant
