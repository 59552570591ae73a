use Rattle.std.proofs.Common.{◌≢◌, [], All, sym, subst, ◌∙◌, true≢false}
use Rattle.std.proofs.lemmas.List.{take_all}
use Rattle.std.proofs.lemmas.List.Elements.{All-more}
use Rattle.poly.specs.Seen.{terms_in}
use Rattle.computation_rows.proofs.calls.is_free_of_zero.Goals as goal

pub loop-p-preserved : goal.loop-p-preserved
loop-p-preserved g c =
    All-more (λ p. terms_in p ≢ []) c.args.list.now c.loop-p.p-index c.p-item.result
    c.loop-p-test.true c.loop-p.invariant
    (subst (λ p. terms_in p ≢ []) c.p-item.is
    (λ e. true≢false (sym (c.is_zero.ensures.1 e) ∙ c.if-is_zero.false)))

pub returns : goal.returns
returns g c = λ t. subst (All (λ p. terms_in p ≢ [])) (take_all c.loop-p.p-index c.args.list.now
    c.loop-p-test.false) c.loop-p.invariant
