use Rattle.std.proofs.Common.{map, ap, ◌∙◌}
use Rattle.std.proofs.lemmas.List.{take_all}
use Rattle.poly.specs.Seen.{terms_each}
use Rattle.program_model.proofs.Copies.{copied_more}
use Rattle.program_model.proofs.widening.copies.Goals as goal

pub loop-poly-init : goal.loop-poly-init
loop-poly-init c = record {
  terms = ap terms_each c.new-out.ensures.items;
  arities = ap (map (λ p. p.arity)) c.new-out.ensures.items;
}

pub loop-poly-preserved : goal.loop-poly-preserved
loop-poly-preserved c =
    copied_more c.deref-poly-items.result.now c.loop-poly.out.items c.push.new.self.items
    c.loop-poly.poly-index c.poly-item.result c.in_ok-copy.field-0 c.loop-poly-test.true
    c.poly-item.is c.loop-poly.invariant c.in_ok-push.ensures.items c.in_ok-copy.ensures.arity
    c.in_ok-copy.ensures.terms

pub returns : goal.returns
returns c =
    let same = take_all _ _ c.loop-poly-test.false ∙ c.deref-poly-items.ensures.value in
    let i = c.loop-poly.invariant in
    record {
      terms = i.terms ∙ ap terms_each same;
      arities = i.arities ∙ ap (map (λ p. p.arity)) same;
    }
