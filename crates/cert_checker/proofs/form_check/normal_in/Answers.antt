use Rattle.std.proofs.Common.{◌↔◌, IsTrue, subst}
use Rattle.poly.specs.Operations.{AreEqual}
use Rattle.coprime_base.specs.Sizes.{sizes}
use Rattle.cert_checker.proofs.Normal.{kept_as, not_kept}
use Rattle.cert_checker.proofs.form_check.normal_in.Goals as goal

pub returns-then-eq-clause-normal : goal.returns-then-eq-clause-normal
returns-then-eq-clause-normal c =
    kept_as (sizes c.args.base.now.items) c.args.p.now c.in_ok-normal.normal c.requires.front
    c.in_ok-normal.ensures.normal c.eq.result
    (subst (λ q. IsTrue c.eq.result ↔ AreEqual q c.args.p.now) c.body.ensures c.eq.ensures.same)
    c.if-eq.true

pub returns-clause-normal : goal.returns-clause-normal
returns-clause-normal c =
    not_kept (sizes c.args.base.now.items) c.args.p.now c.in_ok-normal.normal c.requires.front
    c.in_ok-normal.ensures.normal c.eq.result
    (subst (λ q. IsTrue c.eq.result ↔ AreEqual q c.args.p.now) c.body.ensures c.eq.ensures.same)
    c.if-eq.false
