use Rattle.std.proofs.Common.{◌∙◌, ◌≤◌, subst, arith}
use Rattle.std.specs.List.{All}
use Rattle.std.proofs.lemmas.Grind.{common_steps}
use Rattle.std.proofs.lemmas.List.{take_all}
use Rattle.std.proofs.lemmas.List.Elements.{All-weaker}
use Rattle.poly.proofs.GridSteps.{raised}
use Rattle.poly.proofs.grid.greatest.Goals as goal

pub loop-term-preserved : goal.loop-term-preserved
loop-term-preserved g c =
    let more : c.loop-term.top ≤ c.max-top.result = grind (arith, common_steps) in
    let most : c.greatest_of.result ≤ c.max-top.result = grind (arith, common_steps) in
    let here : All (λ e. e ≤ c.max-top.result) c.term-item.result.mono =
    All-weaker (λ e. e ≤ c.greatest_of.result) (λ e. e ≤ c.max-top.result) (λ e h.
    omega (arith, most)) _ (subst (All (λ e. e ≤ c.greatest_of.result))
    (c.as_slice.ensures ∙ c.exponents.ensures.exponents) c.greatest_of.ensures) in
    raised (λ t. All (λ e. e ≤ c.loop-term.top) t.mono) (λ t. All (λ e. e ≤ c.max-top.result)
    t.mono) (λ t h. All-weaker (λ e. e ≤ c.loop-term.top) (λ e. e ≤ c.max-top.result) (λ e k.
    omega (arith, more)) t.mono h)
    c.args.terms.now c.loop-term.term-index c.term-item.result c.loop-term-test.true
    (subst (λ t. All (λ e. e ≤ c.max-top.result) t.mono) c.term-item.is here)
    c.loop-term.invariant

pub returns : goal.returns
returns g c = subst (All (λ t. All (λ e. e ≤ c.loop-term.top) t.mono))
    (take_all _ _ c.loop-term-test.false) c.loop-term.invariant
