use Rattle.std.proofs.Common.{sym, ap, ap₂, ◌∙◌}
use Rattle.std.proofs.lemmas.Result.{err_from_is_err_and}
use Rattle.polynomials.specs.Exponent.{plus}
use Rattle.poly.proofs.IsLaws.{is_as}
use Rattle.poly.proofs.Composing.{powers_parts, wide_short, wide_long, wide_parts}
use Rattle.poly.proofs.composition.parted_powers.Goals as goal

pub mul-requires : goal.mul-requires
mul-requires g c =
    let left = c.in_ok-left.ensures.powers in
    let right = c.in_ok-right.ensures.powers in
    record { order = left.order ∙ sym right.order; arity = left.arity ∙ sym right.arity }

pub returns-in_err-left-clause-wide : goal.returns-in_err-left-clause-wide
returns-in_err-left-clause-wide g c =
    let p = err_from_is_err_and c.from_residual-in_err-left.result
    c.from_residual-in_err-left.ensures.1 in
    λ w. wide_short g.met.K.Ring.ring c.args.order c.args.arity g.met.K.Ring.bounded
    c.args.images.now c.deref.result.now c.in_ok-short.long.items c.args.exponents.now
    (ap (λ d. plus d c.in_ok-short.long.items) c.deref.ensures.value ∙ c.in_ok-short.ensures.sum)
    (c.in_err-left.ensures.wide (cc (p.1, p.2)))

pub returns-in_err-right-clause-wide : goal.returns-in_err-right-clause-wide
returns-in_err-right-clause-wide g c =
    let p = err_from_is_err_and c.from_residual-in_err-right.result
    c.from_residual-in_err-right.ensures.1 in
    λ w. wide_long g.met.K.Ring.ring c.args.order c.args.arity g.met.K.Ring.bounded
    c.args.images.now c.deref.result.now c.deref-2.result.now c.args.exponents.now
    (ap₂ plus c.deref.ensures.value c.deref-2.ensures.value ∙ c.in_ok-short.ensures.sum)
    (c.in_err-right.ensures.wide (cc (p.1, p.2)))

pub returns-clause-powers : goal.returns-clause-powers
returns-clause-powers g c =
    let left = c.in_ok-left.ensures.powers in
    let right = c.in_ok-right.ensures.powers in
    is_as c.mul.result _ _ _ _ _ _ left.order left.arity
    (λ p product. powers_parts g.met.K.Ring.ring c.args.order c.args.arity c.args.images.now
    c.deref.result.now c.deref-2.result.now c.args.exponents.now _ _ _
    (ap₂ plus c.deref.ensures.value c.deref-2.ensures.value ∙ c.in_ok-short.ensures.sum)
    c.requires.images left.same right.same product) c.mul.ensures.product

pub returns-clause-wide : goal.returns-clause-wide
returns-clause-wide g c =
    λ w. wide_parts g.met.K.Ring.ring c.args.order c.args.arity g.met.K.Ring.bounded
    (g.met.O.Order.is_order c.args.order) c.args.images.now c.deref.result.now
    c.deref-2.result.now c.args.exponents.now c.in_ok-left.left c.in_ok-right.right
    (ap₂ plus c.deref.ensures.value c.deref-2.ensures.value ∙ c.in_ok-short.ensures.sum)
    c.in_ok-left.ensures.powers c.in_ok-right.ensures.powers (c.mul.ensures.wide w)
