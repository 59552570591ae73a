use Rattle.std.proofs.Common.{sym, ap, subst, ◌∙◌, take, ◌+◌, ◌<◌, length, get_or}
use Rattle.std.specs.List.{AllZip}
use Rattle.std.proofs.lemmas.List.Elements.{all_zip_more}
use Rattle.program_model.specs.Widening.{IsWidened}
use Rattle.program_model.proofs.widening.widened_all.Goals as goal

pub loop-poly-preserved : goal.loop-poly-preserved
loop-poly-preserved c =
    let same = c.deref-poly-items.ensures.value in
    let i = c.loop-poly.poly-index in
    subst (λ out. AllZip (IsWidened c.args.at) (take (i + 1) c.args.polys.now.items) out)
    (sym c.in_ok-push.ensures.items)
    (all_zip_more (IsWidened c.args.at) c.args.polys.now.items c.loop-poly.out.items i
    c.poly-item.result c.in_ok-widened.field-0 (subst (λ xs. i < length xs) same
    c.loop-poly-test.true) (c.poly-item.is ∙ ap (λ xs. get_or xs i c.poly-item.result) same)
    c.loop-poly.invariant c.in_ok-widened.ensures.ok)
