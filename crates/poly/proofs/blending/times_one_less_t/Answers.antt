use Rattle.std.proofs.Common.{◌≡◌, Err, ap, subst, ◌∙◌}
use Rattle.polynomials.specs.Order.{grevlex, blocks}
use Rattle.polynomials.specs.Polynomial.{IsPolynomial}
use Rattle.machines.specs.Elimination.{in_front}
use Rattle.poly.specs.Seen.{terms_in}
use Rattle.poly.proofs.Blends.{one_made, opposite_made, rest_made, none_shared, with_one}
use Rattle.poly.proofs.blending.times_one_less_t.Given.{Over}
use Rattle.poly.proofs.blending.times_one_less_t.Goals as goal
use Rattle.poly.proofs.blending.times_one_less_t.Goals.{In_ok-part}

one_is : (g : Over) (c : In_ok-part g) → terms_in c.in_ok-whole.whole
    ≡ in_front 1 (terms_in c.args.p.now)
one_is g c =
    let S = g.K.Ring.scalars in
    let whole = c.in_ok-whole.whole in
    let i = c.in_ok-whole.ensures.product in
    one_made S g.met.K.Ring.ring g.met.K.Field.field g.met.K.Ring.zero_is c.args.p.now.arity
    whole.arity _ (terms_in c.args.p.now) (terms_in whole) c.in_ok-one.ensures.ok
    c.args.p.now.polynomial
    (subst (λ o. IsPolynomial S.arithmetic (blocks o.first grevlex grevlex) whole.arity
    (terms_in whole)) i.order whole.polynomial) i.same

pub returns-in-Ok-clause-product : goal.returns-in-Ok-clause-product
returns-in-Ok-clause-product g c =
    let S = g.K.Ring.scalars in
    let q = c.args.p.now in
    let opposite = c.in_ok-opposite.opposite in
    let whole = c.in_ok-whole.ensures.product in
    let opposite_is = opposite_made S g.met.K.Ring.ring g.met.K.Field.field g.met.K.Ring.zero_is
    q.arity opposite.arity (terms_in q) (terms_in opposite) q.polynomial opposite.polynomial
    c.in_ok-opposite.ensures.opposite.same in
    let p = c.in-Ok.sum in
    let i = c.in-Ok.ensures.sum in
    rest_made S g.met.K.Ring.ring g.met.K.Field.field g.met.K.Ring.zero_is q.arity p.arity
    (terms_in q) (terms_in opposite) (terms_in c.in_ok-whole.whole)
    (terms_in c.in_ok-part.part) (terms_in p)
    q.polynomial (one_is g (goal.at.returns-in-Ok-clause-product g c).In_ok-part) opposite_is
    c.in_ok-part.ensures.product
    (subst (λ o. IsPolynomial S.arithmetic (blocks o.first grevlex grevlex) p.arity (terms_in p))
    (i.order ∙ whole.order) p.polynomial) (with_one p.arity q.arity _ c.in_ok-one.ensures.ok
    (i.arity ∙ whole.arity)) i.same

pub unreachable-requires : goal.unreachable-requires
unreachable-requires g c = none_shared (terms_in c.args.p.now)
    (terms_in c.in_ok-opposite.opposite) _ _
    (one_is g (goal.at.unreachable-requires g c).In_ok-part) c.in_ok-part.ensures.product
    (c.in-Err-Wide.ensures.shared (ap Err c.in-Err-Wide.field-0-is))
