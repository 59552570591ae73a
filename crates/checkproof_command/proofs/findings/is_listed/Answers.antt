use Rattle.std.proofs.Common.{◌≡◌, ◌<◌, length, get_or, refl, subst, arith, rules}
use borrow.Author.Count.{below_more}
use Rattle.checkproof_command.proofs.Listing.{one_more, stands_here, stands_nowhere}
use Rattle.checkproof_command.proofs.findings.is_listed.Goals as goal

pub loop-element-preserved : goal.loop-element-preserved
loop-element-preserved c =
    below_more _ c.loop-element.element-index c.loop-element.invariant
    (one_more c.args.list.now c.args.goal.now c.loop-element.element-index c.element-item.result
    c.eq.result (subst (λ xs. c.loop-element.element-index < length xs)
    c.deref-element-items.ensures.value c.loop-element-test.true)
    (subst (λ xs. c.element-item.result ≡ get_or xs c.loop-element.element-index
    c.element-item.result) c.deref-element-items.ensures.value c.element-item.is)
    (c.eq.ensures.decides refl (search rules))
    (λ is. (let x = c.if-eq.false in let z : ⊥ = cc in z)))

pub returns-then-eq : goal.returns-then-eq
returns-then-eq c =
    stands_here c.args.list.now c.args.goal.now c.loop-element.element-index c.element-item.result
    c.eq.result (subst (λ xs. c.loop-element.element-index < length xs)
    c.deref-element-items.ensures.value c.loop-element-test.true)
    (subst (λ xs. c.element-item.result ≡ get_or xs c.loop-element.element-index
    c.element-item.result) c.deref-element-items.ensures.value c.element-item.is)
    (c.eq.ensures.decides refl (search rules))
    c.if-eq.true

pub returns : goal.returns
returns c =
    stands_nowhere c.args.list.now c.args.goal.now c.loop-element.element-index (omega arith)
    c.loop-element.invariant
