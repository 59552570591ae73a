use Rattle.std.proofs.Common.{◌≡◌, ◌++◌, length, refl, sym, ap, subst, ◌∙◌}
use Rattle.polynomials.specs.Exponent.{plus}
use Rattle.polynomials.specs.Polynomial.{IsPolynomial}
use Rattle.polynomials.proofs.Exponent.{length-plus}
use Rattle.poly.specs.View.{terms_of}
use Rattle.poly.proofs.Raising.{raised_none}
use Rattle.poly.proofs.multiple.put_product.Goals as goal

pub returns-then-is_zero-clause-ok : goal.returns-then-is_zero-clause-ok
returns-then-is_zero-clause-ok g c =
    let k = terms_of g.K.Ring.meaning in
    let long : length (plus c.args.by.now c.args.term.now.mono) ≡ length c.args.by.now =
    length-plus _ _ _ refl (sym c.requires.long) in
    raised_none g.K.Ring.scalars g.met.K.Ring.ring (g.O.Order.order c.args.order)
    (g.met.O.Order.is_order c.args.order) (k c.args.front.now.items) (k c.args.back.now.items) _
    _
    (subst (λ n. IsPolynomial g.K.Ring.scalars.arithmetic (g.O.Order.order c.args.order) n
    (k c.args.front.now.items ++ k c.args.back.now.items)) (sym long) c.requires.descending)
    c.requires.above
    (sym c.in_ok-coef.ensures.ok ∙ c.is_zero.ensures.0 c.if-is_zero.true)

pub put-requires-clause-descending : goal.put-requires-clause-descending
put-requires-clause-descending g c =
    let k = terms_of g.K.Ring.meaning in
    let long : length c.in_ok-mono.mono ≡ length c.args.by.now = ap length c.in_ok-mono.ensures.ok
    ∙ length-plus _ _ _ refl (sym c.requires.long) in
    subst (λ n. IsPolynomial g.K.Ring.scalars.arithmetic (g.O.Order.order c.args.order) n
    (k c.args.front.now.items ++ k c.args.back.now.items)) (sym long) c.requires.descending
