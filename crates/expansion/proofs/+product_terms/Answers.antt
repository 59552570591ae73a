use Rattle.std.proofs.Common.{inl, inr, ap, sym, subst, ◌∙◌, ◌^◌, ◌<◌}
use Rattle.std.proofs.lemmas.List.{length-map}
use Rattle.poly.specs.Seen.{terms_in, terms_each}
use Rattle.expansion.specs.Counts.{most_terms}
use Rattle.expansion.proofs.Counting.{of_first, products_none, products_more, products_past, at_least_one, none_above, some_is}
use Rattle.expansion.proofs.+product_terms.Goals as goal

pub returns-in_default : goal.returns-in_default
returns-in_default t c =
    of_first _ (products_none (terms_each c.args.images.now) c.args.exponents.now
    (inr c.in_default.ensures'.cases))

pub returns-in_default-2 : goal.returns-in_default-2
returns-in_default-2 t c =
    of_first _ (products_none (terms_each c.args.images.now) c.args.exponents.now
    (inl (length-map c.args.images.now terms_in ∙ c.in_default.ensures.cases)))

pub returns-in_default-product_terms : goal.returns-in_default-product_terms
returns-in_default-product_terms t c =
    products_past (terms_in c.in-Some-Some.image.now) (terms_each c.in-Some-Some.images.now)
    (terms_each c.args.images.now) c.in-Some-Some.exponent.now c.in-Some-Some.exponents.now
    c.args.exponents.now (ap terms_each c.in-Some-Some.ensures.cases.0)
    c.in-Some-Some.ensures'.cases.0
    (inl (none_above _ c.product_terms.result c.product_terms.ensures
    c.in_default-product_terms.not-Some))

pub power-requires : goal.power-requires
power-requires t c = subst (λ k. 0 < k) (sym c.factor.ensures)
    (at_least_one (terms_in c.in-Some-Some.image.now))

pub returns-in_default-power : goal.returns-in_default-power
returns-in_default-power t c =
    products_past (terms_in c.in-Some-Some.image.now) (terms_each c.in-Some-Some.images.now)
    (terms_each c.args.images.now) c.in-Some-Some.exponent.now c.in-Some-Some.exponents.now
    c.args.exponents.now (ap terms_each c.in-Some-Some.ensures.cases.0)
    c.in-Some-Some.ensures'.cases.0
    (inr (subst (λ k. most_terms < k ^ c.in-Some-Some.exponent.now) c.factor.ensures
    (none_above _ c.power.result c.power.ensures c.in_default-power.not-Some)))

pub returns : goal.returns
returns t c =
    let rest = some_is _ c.in-Some.rest c.product_terms.result c.product_terms.ensures
    c.in-Some.is in
    let power = some_is _ c.in-Some-power.power c.power.result c.power.ensures
    c.in-Some-power.is in
    products_more (terms_in c.in-Some-Some.image.now) (terms_each c.in-Some-Some.images.now)
    (terms_each c.args.images.now) c.in-Some-Some.exponent.now c.in-Some-Some.exponents.now
    c.args.exponents.now c.in-Some.rest c.in-Some-power.power c.product.result
    (ap terms_each c.in-Some-Some.ensures.cases.0) c.in-Some-Some.ensures'.cases.0 rest.0
    (power.0 ∙ ap (λ k. k ^ c.in-Some-Some.exponent.now) c.factor.ensures) c.product.ensures
