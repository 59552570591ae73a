use Rattle.std.proofs.Common.{inl, inr, ap, subst, ◌∙◌}
use Rattle.algebra.proofs.Lists.{nil_from_length, one_from_length}
use Rattle.frac128.specs.FracMeaning.{fraction_of}
use Rattle.poly.specs.Seen.{terms_in}
use Rattle.poly.specs.View.{terms_of}
use Rattle.expansion.specs.Counts.{IsCount}
use Rattle.expansion.specs.Lengths.{next_length}
use Rattle.expansion.proofs.Counting.{of_zero, none_above, some_is, count_of}
use Rattle.expansion.proofs.LengthLaws.{sum_none, sum_one, sum_past, sum_parts}
use Rattle.expansion.proofs.lengths.+next_lengths.Goals as goal

pub returns-in-empty : goal.returns-in-empty
returns-in-empty t c =
    of_zero _ (sum_none next_length terms_in c.args.list.now
    (nil_from_length c.args.list.now c.in-empty.len_below))

pub returns-in-len1 : goal.returns-in-len1
returns-in-len1 t c =
    let one = one_from_length _ _ c.in-len1.len_at_least c.in-len1.len_below c.element-item.is in
    let read = c.deref.ensures.value ∙ ap (λ v. v.items) c.terms.ensures in
    count_of _ _ c.sum_next.result
    (sum_one next_length terms_in c.element-item.result c.args.list.now one)
    (subst (λ ts. IsCount (next_length (terms_of fraction_of ts)) c.sum_next.result) read
    c.sum_next.ensures)

pub returns-in_default-next_lengths : goal.returns-in_default-next_lengths
returns-in_default-next_lengths t c =
    sum_past next_length terms_in c.args.list.now _ _ _ c.split_at.ensures.front
    c.split_at.ensures.back
    (inl (none_above _ c.next_lengths.result c.next_lengths.ensures
    c.in_default-next_lengths.not-Some))

pub returns-in_default-next_lengths-2 : goal.returns-in_default-next_lengths-2
returns-in_default-next_lengths-2 t c =
    sum_past next_length terms_in c.args.list.now _ _ _ c.split_at.ensures.front
    c.split_at.ensures.back
    (inr (none_above _ c.next_lengths-in_default.result c.next_lengths-in_default.ensures
    c.in_default-next_lengths-2.not-Some))

pub returns-in-Some-next_lengths : goal.returns-in-Some-next_lengths
returns-in-Some-next_lengths t c =
    let left = some_is _ c.in-Some.left c.next_lengths.result c.next_lengths.ensures c.in-Some.is in
    let right = some_is _ c.in-Some-next_lengths.right c.next_lengths-in_default.result
    c.next_lengths-in_default.ensures c.in-Some-next_lengths.is in
    sum_parts next_length terms_in c.args.list.now _ _ _ c.split_at.ensures.front
    c.split_at.ensures.back
    c.in-Some.left c.in-Some-next_lengths.right c.sum.result left.0 right.0 c.sum.ensures
