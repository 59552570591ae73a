use Rattle.std.proofs.Common.{◌≡◌, ◌≢◌, [], sym, subst, ◌∙◌}
use Rattle.algebra.specs.Scalars.{field}
use Rattle.algebra.specs.Size.{IsPast, quotient_size}
use Rattle.polynomials.specs.Weight.{weight}
use Rattle.machines.specs.Cut.{monic}
use Rattle.poly.specs.Seen.{terms_in}
use Rattle.divide.proofs.OneCut.{along}
use Rattle.complete.proofs.Made.{if_ok, lead_same, monic_made, monic_some}
use Rattle.complete.proofs.element.made_monic.Goals as goal

pub returns-clause-monic : goal.returns-clause-monic
returns-clause-monic g c =
    let S = g.K.Ring.scalars in
    let p = c.args.p.now in
    if_ok _ (λ q. terms_in q ≡ monic (field S) (terms_in p)) c.monic.result
    (λ q i. monic_made S g.met.K.Ring.ring g.met.K.Field.field g.met.K.Ring.zero_is _
    (g.met.O.Order.is_order p.order) p.arity (terms_in p) p.polynomial c.requires (terms_in q)
    (along S g.O.Order.order _ _ _ _ _ i.order i.arity q.polynomial) i.same)
    c.monic.ensures.quotient

pub returns-clause-nonzero : goal.returns-clause-nonzero
returns-clause-nonzero g c =
    let S = g.K.Ring.scalars in
    let p = c.args.p.now in
    if_ok _ (λ q. terms_in q ≢ []) c.monic.result
    (λ q i e. monic_some S g.met.K.Ring.ring g.met.K.Field.field g.met.K.Ring.zero_is _
    (g.met.O.Order.is_order p.order) p.arity (terms_in p) p.polynomial c.requires
    (sym (monic_made S g.met.K.Ring.ring g.met.K.Field.field g.met.K.Ring.zero_is _
    (g.met.O.Order.is_order p.order) p.arity (terms_in p) p.polynomial c.requires
    (terms_in q) (along S g.O.Order.order _ _ _ _ _ i.order i.arity q.polynomial) i.same)
    ∙ e))
    c.monic.ensures.quotient

pub returns-clause-wide : goal.returns-clause-wide
returns-clause-wide g c = λ w. (
  (λ one. c.monic.ensures.narrow (lead_same g.K.Ring.scalars (terms_in c.args.p.now) ∙ one) w),
  subst (λ l. IsPast (quotient_size (weight g.K.Ring.scalars.size (terms_in c.args.p.now))
      (g.K.Ring.scalars.size l))) (lead_same g.K.Ring.scalars (terms_in c.args.p.now))
      (c.monic.ensures.wide w),
)
