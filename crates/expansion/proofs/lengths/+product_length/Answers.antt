use Rattle.std.proofs.Common.{inl, inr, map, ap, ◌∙◌}
use Rattle.std.proofs.lemmas.List.{length-map}
use Rattle.poly.specs.Seen.{terms_in, terms_each}
use Rattle.expansion.proofs.Counting.{of_first, none_above, some_is}
use Rattle.expansion.proofs.LengthLaws.{lengths_none, lengths_more, product_past, factors_some}
use Rattle.expansion.specs.Counts.{factor_terms}
use Rattle.expansion.proofs.lengths.+product_length.Goals as goal

pub returns-in_default : goal.returns-in_default
returns-in_default t c =
    of_first _ (lengths_none (map factor_terms (terms_each c.args.images.now)) c.args.exponents.now
    (inr c.in_default.ensures'.cases))

pub returns-in_default-2 : goal.returns-in_default-2
returns-in_default-2 t c =
    of_first _ (lengths_none (map factor_terms (terms_each c.args.images.now)) c.args.exponents.now
    (inl (length-map (terms_each c.args.images.now) factor_terms
    ∙ length-map c.args.images.now terms_in ∙ c.in_default.ensures.cases)))

pub returns-in_default-product_length : goal.returns-in_default-product_length
returns-in_default-product_length t c =
    product_past (factor_terms (terms_in c.in-Some-Some.image.now))
    (map factor_terms (terms_each c.in-Some-Some.images.now))
    (map factor_terms (terms_each c.args.images.now))
    c.in-Some-Some.exponent.now c.in-Some-Some.exponents.now c.args.exponents.now
    (ap (λ ps. map factor_terms (terms_each ps)) c.in-Some-Some.ensures.cases.0)
    c.in-Some-Some.ensures'.cases.0 (factors_some (terms_each c.args.images.now))
    (inl (none_above _ c.product_length.result c.product_length.ensures
    c.in_default-product_length.not-Some))

pub returns-in_default-power_length : goal.returns-in_default-power_length
returns-in_default-power_length t c =
    product_past (factor_terms (terms_in c.in-Some-Some.image.now))
    (map factor_terms (terms_each c.in-Some-Some.images.now))
    (map factor_terms (terms_each c.args.images.now))
    c.in-Some-Some.exponent.now c.in-Some-Some.exponents.now c.args.exponents.now
    (ap (λ ps. map factor_terms (terms_each ps)) c.in-Some-Some.ensures.cases.0)
    c.in-Some-Some.ensures'.cases.0 (factors_some (terms_each c.args.images.now))
    (inr (none_above _ c.power_length.result c.power_length.ensures
    c.in_default-power_length.not-Some))

pub returns : goal.returns
returns t c =
    let rest = some_is _ c.in-Some.rest c.product_length.result c.product_length.ensures
    c.in-Some.is in
    let power = some_is _ c.in-Some-power_length.power c.power_length.result
    c.power_length.ensures c.in-Some-power_length.is in
    lengths_more (factor_terms (terms_in c.in-Some-Some.image.now))
    (map factor_terms (terms_each c.in-Some-Some.images.now))
    (map factor_terms (terms_each c.args.images.now))
    c.in-Some-Some.exponent.now c.in-Some-Some.exponents.now c.args.exponents.now
    c.in-Some.rest c.in-Some-power_length.power c.product.result
    (ap (λ ps. map factor_terms (terms_each ps)) c.in-Some-Some.ensures.cases.0)
    c.in-Some-Some.ensures'.cases.0 rest.0 power.0 c.product.ensures
