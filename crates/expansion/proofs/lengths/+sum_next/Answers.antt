use Rattle.std.proofs.Common.{suc, get_or, inl, inr, ap, ◌∙◌}
use Rattle.algebra.proofs.Lists.{nil_from_length, one_from_length}
use Rattle.frac128.specs.FracMeaning.{fraction_of}
use Rattle.poly.specs.View.{term_of}
use Rattle.expansion.specs.Lengths.{term_next}
use Rattle.expansion.proofs.Counting.{of_zero, none_above, some_is, count_of}
use Rattle.expansion.proofs.LengthLaws.{sum_none, sum_one, sum_past, sum_parts}
use Rattle.expansion.proofs.lengths.+sum_next.Goals as goal

pub returns-in-empty : goal.returns-in-empty
returns-in-empty t c =
    of_zero _ (sum_none term_next (term_of fraction_of) c.args.terms.now
    (nil_from_length c.args.terms.now c.in-empty.len_below))

pub returns-in-len1 : goal.returns-in-len1
returns-in-len1 t c =
    let one = one_from_length _ _ c.in-len1.len_at_least c.in-len1.len_below c.term-item.is in
    count_of _ _ c.limited.result
    (c.product_next.ensures ∙ ap (λ e. suc (get_or e 0 0))
    (c.as_slice.ensures ∙ c.exponents.ensures.exponents)
    ∙ sum_one term_next (term_of fraction_of) c.term-item.result
    c.args.terms.now one) c.limited.ensures

pub returns-in_default-sum_next : goal.returns-in_default-sum_next
returns-in_default-sum_next t c =
    sum_past term_next (term_of fraction_of) c.args.terms.now _ _ _ c.split_at.ensures.front
    c.split_at.ensures.back
    (inl (none_above _ c.sum_next.result c.sum_next.ensures c.in_default-sum_next.not-Some))

pub returns-in_default-sum_next-2 : goal.returns-in_default-sum_next-2
returns-in_default-sum_next-2 t c =
    sum_past term_next (term_of fraction_of) c.args.terms.now _ _ _ c.split_at.ensures.front
    c.split_at.ensures.back
    (inr (none_above _ c.sum_next-in_default.result c.sum_next-in_default.ensures
    c.in_default-sum_next-2.not-Some))

pub returns-in-Some-sum_next : goal.returns-in-Some-sum_next
returns-in-Some-sum_next t c =
    let left = some_is _ c.in-Some.left c.sum_next.result c.sum_next.ensures c.in-Some.is in
    let right = some_is _ c.in-Some-sum_next.right c.sum_next-in_default.result
    c.sum_next-in_default.ensures c.in-Some-sum_next.is in
    sum_parts term_next (term_of fraction_of) c.args.terms.now _ _ _ c.split_at.ensures.front
    c.split_at.ensures.back
    c.in-Some.left c.in-Some-sum_next.right c.sum.result left.0 right.0 c.sum.ensures
