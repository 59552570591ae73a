use Rattle.std.proofs.Common.{refl, sym, ap, ◌∙◌}
use Rattle.polynomials.specs.Order.{compare}
use Rattle.task_lists.proofs.Leading.{first_length, nothing_below, below_tells}
use Rattle.task_lists.proofs.Combining.{polynomial_as}
use Rattle.task_lists.proofs.pairs.is_below.Goals as goal

pub compare-requires : goal.compare-requires
compare-requires g c =
    let product = c.in_ok-product.product in
    first_length product.arity _ _ c.in-Some.ensures.some product.polynomial.arity
    ∙ c.in_ok-product.ensures.product.arity ∙ c.requires.arity ∙ sym c.requires.long

pub returns-in-Some-clause-below : goal.returns-in-Some-clause-below
returns-in-Some-clause-below g c =
    let element = c.args.element.now in
    let product = c.in_ok-product.product in
    let is = c.in_ok-product.ensures.product in
    let order = is.order ∙ c.requires.order in
    below_tells (g.met.O.Order.is_order element.order) _ _ _ is.same element.arity (polynomial_as _
    _ product order (is.arity ∙ c.requires.arity)) _ c.in-Some.ensures.some c.compare.result
    (c.compare.ensures ∙ ap (λ o. compare (g.O.Order.order o) c.in-Some.lead.now.mono
    c.args.multiple.now) (c.order.ensures ∙ order)) c.is_lt.result c.is_lt.ensures

pub returns-clause-below : goal.returns-clause-below
returns-clause-below g c =
    let element = c.args.element.now in
    let is = c.in_ok-product.ensures.product in
    let below = nothing_below (g.met.O.Order.is_order element.order) _ _ _ is.same
    (c.in-None.ensures.none.0 refl) in
    (λ t. below, λ h. refl)
