use Rattle.std.proofs.Common.{◌≡◌, subst}
use Rattle.std.proofs.lemmas.Result.{IfOk-weaker}
use Rattle.polynomials.specs.Order.{grevlex, blocks}
use Rattle.polynomials.specs.Polynomial.{IsPolynomial}
use Rattle.machines.specs.Elimination.{with_first}
use Rattle.poly.specs.Seen.{terms_in}
use Rattle.poly.proofs.Blends.{t_made}
use Rattle.poly.proofs.blending.times_t.Goals as goal

pub returns-clause-product : goal.returns-clause-product
returns-clause-product g c =
    let S = g.K.Ring.scalars in
    IfOk-weaker c.behind.result _ (λ q. terms_in q ≡ with_first (terms_in c.args.p.now))
    (λ q i. t_made S g.met.K.Ring.ring g.met.K.Field.field g.met.K.Ring.zero_is c.args.p.now.arity
    q.arity _ (terms_in c.args.p.now) (terms_in q) c.in_ok-t.ensures.ok
    c.args.p.now.polynomial
    (subst (λ o. IsPolynomial S.arithmetic (blocks o.first grevlex grevlex) q.arity (terms_in q))
    i.order q.polynomial) i.same)
    c.behind.ensures.product
