use Rattle.std.proofs.Common.{◌∙◌, subst}
use Rattle.std.proofs.lemmas.Result.{err_from_is_err_and}
use Rattle.polynomials.specs.Terms.{lists, monomial_at}
use Rattle.polynomials.specs.Weight.{IsPastMonomial}
use Rattle.polynomials.proofs.Past.{past_composition_monomial}
use Rattle.poly.specs.Seen.{Is, terms_in, terms_each}
use Rattle.poly.specs.View.{term_of}
use Rattle.poly.proofs.IsLaws.{is_as}
use Rattle.poly.proofs.Composing.{term_composed, wide_term}
use Rattle.poly.proofs.composition.term_composed.Goals as goal

pub returns-in_err-parted_powers-clause-wide : goal.returns-in_err-parted_powers-clause-wide
returns-in_err-parted_powers-clause-wide g c =
    let p = err_from_is_err_and c.from_residual.result c.from_residual.ensures.1 in
    λ w. past_composition_monomial g.K.Ring.scalars g.met.K.Ring.ring g.met.K.Ring.bounded
    (term_of g.K.Ring.meaning c.args.term.now) (terms_each c.args.images.now)
    (subst (IsPastMonomial g.K.Ring.scalars (terms_each c.args.images.now))
    (c.as_slice.ensures ∙ c.exponents.ensures.exponents) (c.in_err-parted_powers.ensures.wide
    (cc (p.1, p.2))))

pub returns-clause-composition : goal.returns-clause-composition
returns-clause-composition g c =
    let value : Is c.args.order c.args.arity
    (monomial_at (lists g.K.Ring.scalars.arithmetic c.args.arity) (terms_each c.args.images.now)
    c.args.term.now.mono) c.in_ok-parted_powers.field-0 =
    subst (λ e.
    Is c.args.order c.args.arity (monomial_at (lists g.K.Ring.scalars.arithmetic c.args.arity)
    (terms_each c.args.images.now) e) c.in_ok-parted_powers.field-0) (c.as_slice.ensures
    ∙ c.exponents.ensures.exponents)
    c.in_ok-parted_powers.ensures.powers in
    is_as c.scale.result _ _ _ _ _ _ value.order value.arity
    (λ p product. term_composed g.met.K.Ring.ring c.args.order c.args.arity c.args.images.now
    (term_of g.K.Ring.meaning c.args.term.now) _ _ (terms_in p) value.arity value.same
    product)
    c.scale.ensures.product

pub returns-clause-wide : goal.returns-clause-wide
returns-clause-wide g c =
    let value : Is c.args.order c.args.arity
    (monomial_at (lists g.K.Ring.scalars.arithmetic c.args.arity) (terms_each c.args.images.now)
    c.args.term.now.mono) c.in_ok-parted_powers.field-0 =
    subst (λ e.
    Is c.args.order c.args.arity (monomial_at (lists g.K.Ring.scalars.arithmetic c.args.arity)
    (terms_each c.args.images.now) e) c.in_ok-parted_powers.field-0) (c.as_slice.ensures
    ∙ c.exponents.ensures.exponents)
    c.in_ok-parted_powers.ensures.powers in
    λ w. wide_term g.met.K.Ring.ring c.args.order c.args.arity g.met.K.Ring.bounded
    (g.met.O.Order.is_order c.args.order) c.args.images.now
    (term_of g.K.Ring.meaning c.args.term.now) c.in_ok-parted_powers.field-0 value
    (c.scale.ensures.wide w)
