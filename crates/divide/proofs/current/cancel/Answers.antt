use Rattle.std.proofs.lemmas.Result.{err_from_is_err_and}
use Rattle.divide.proofs.OneCut.{along, cuts, past_rest}
use Rattle.divide.proofs.current.cancel.Goals as goal

pub returns-in_err-factor-clause-wide : goal.returns-in_err-factor-clause-wide
returns-in_err-factor-clause-wide g c =
    let p = err_from_is_err_and c.from_residual.result c.from_residual.ensures.1 in
    λ w. c.in_err-factor.ensures.wide (cc (p.1, p.2, w))

pub returns-in_err-poly-clause-wide : goal.returns-in_err-poly-clause-wide
returns-in_err-poly-clause-wide g c =
    let p = err_from_is_err_and c.from_residual-in_err-poly.result
    c.from_residual-in_err-poly.ensures.1 in
    λ w. past_rest g.K.Ring.scalars _ _ _ _ _ c.in_ok-factor.ensures.by
    c.in_ok-factor.ensures.number
    (c.in_err-poly.ensures.wide (cc (p.1, p.2, w)))

pub returns-clause-cutting : goal.returns-clause-cutting
returns-clause-cutting g c =
    let S = g.K.Ring.scalars in
    cuts S g.met.K.Ring.ring g.met.K.Field.field g.met.K.Ring.zero_is _
    (g.met.O.Order.is_order c.args.p.order) _ _ _ _ _ _ _ c.args.p.polynomial
    (along S g.O.Order.order _ _ _ _ _ c.requires.order c.requires.arity c.args.g.now.polynomial)
    (along S g.O.Order.order _ _ _ _ _ c.in_ok-poly.ensures.difference.order
    c.in_ok-poly.ensures.difference.arity c.in_ok-poly.poly.polynomial)
    c.in_ok-factor.ensures.long c.in_ok-factor.ensures.by c.in_ok-factor.ensures.number
    c.in_ok-poly.ensures.difference.same
