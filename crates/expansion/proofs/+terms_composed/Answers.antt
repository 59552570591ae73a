use Rattle.std.proofs.Common.{inl, inr, ap, sym, subst, ◌∙◌}
use Rattle.algebra.proofs.Lists.{nil_from_length, one_from_length}
use Rattle.frac128.specs.FracMeaning.{fraction_of}
use Rattle.poly.specs.Seen.{terms_each}
use Rattle.poly.specs.View.{term_of, terms_of}
use Rattle.expansion.specs.Counts.{IsCount, product_terms, composition_terms}
use Rattle.expansion.proofs.Counting.{of_zero, composed_none, composed_one, composed_past, composed_parts, none_above, some_is, count_of, parts}
use Rattle.expansion.proofs.+terms_composed.Goals as goal

pub returns-in-empty : goal.returns-in-empty
returns-in-empty t c =
    of_zero _ (ap (λ ts. composition_terms (terms_of fraction_of ts) (terms_each c.args.images.now))
    (nil_from_length c.args.terms.now c.in-empty.len_below)
    ∙ composed_none (terms_each c.args.images.now))

pub returns-in-len1 : goal.returns-in-len1
returns-in-len1 t c =
    let one = one_from_length _ _ c.in-len1.len_at_least c.in-len1.len_below c.term-item.is in
    let images = terms_each c.args.images.now in
    count_of _ _ c.product_terms.result
    (composed_one (c.term-item.result.mono, fraction_of c.term-item.result.coef) images
    ∙ ap (λ ts. composition_terms (terms_of fraction_of ts) images) (sym one))
    (subst (λ e. IsCount (product_terms images e) c.product_terms.result)
    (c.as_slice.ensures ∙ c.exponents.ensures.exponents) c.product_terms.ensures)

pub returns-in_default-terms_composed : goal.returns-in_default-terms_composed
returns-in_default-terms_composed t c =
    composed_past _ _ _ (terms_each c.args.images.now)
    (parts (term_of fraction_of) _ _ _ _ c.split_at.ensures.front c.split_at.ensures.back)
    (inl (none_above _ c.terms_composed.result c.terms_composed.ensures
    c.in_default-terms_composed.not-Some))

pub returns-in_default-terms_composed-2 : goal.returns-in_default-terms_composed-2
returns-in_default-terms_composed-2 t c =
    composed_past _ _ _ (terms_each c.args.images.now)
    (parts (term_of fraction_of) _ _ _ _ c.split_at.ensures.front c.split_at.ensures.back)
    (inr (none_above _ c.terms_composed-in_default.result c.terms_composed-in_default.ensures
    c.in_default-terms_composed-2.not-Some))

pub returns-in-Some-terms_composed : goal.returns-in-Some-terms_composed
returns-in-Some-terms_composed t c =
    let left = some_is _ c.in-Some.left c.terms_composed.result c.terms_composed.ensures
    c.in-Some.is in
    let right = some_is _ c.in-Some-terms_composed.right c.terms_composed-in_default.result
    c.terms_composed-in_default.ensures c.in-Some-terms_composed.is in
    composed_parts _ _ _ (terms_each c.args.images.now) c.in-Some.left
    c.in-Some-terms_composed.right
    c.sum.result
    (parts (term_of fraction_of) _ _ _ _ c.split_at.ensures.front c.split_at.ensures.back) left.0
    right.0 c.sum.ensures
