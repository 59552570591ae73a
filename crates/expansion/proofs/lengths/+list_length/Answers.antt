use Rattle.std.proofs.Common.{inl, inr}
use Rattle.algebra.proofs.Lists.{nil_from_length, one_from_length}
use Rattle.poly.specs.Seen.{terms_in, terms_each}
use Rattle.expansion.specs.Lengths.{composition_length}
use Rattle.expansion.proofs.Counting.{of_zero, none_above, some_is, count_of}
use Rattle.expansion.proofs.LengthLaws.{sum_none, sum_one, sum_past, sum_parts}
use Rattle.expansion.proofs.lengths.+list_length.Goals as goal

pub returns-in-empty : goal.returns-in-empty
returns-in-empty t c =
    of_zero _ (sum_none (λ p. composition_length p (terms_each c.args.images.now)) terms_in
    c.args.list.now
    (nil_from_length c.args.list.now c.in-empty.len_below))

pub returns-in-len1 : goal.returns-in-len1
returns-in-len1 t c =
    let one = one_from_length _ _ c.in-len1.len_at_least c.in-len1.len_below c.element-item.is in
    count_of _ _ c.composition_length.result
    (sum_one (λ p. composition_length p (terms_each c.args.images.now)) terms_in
    c.element-item.result c.args.list.now one) c.composition_length.ensures

pub returns-in_default-list_length : goal.returns-in_default-list_length
returns-in_default-list_length t c =
    sum_past (λ p. composition_length p (terms_each c.args.images.now)) terms_in c.args.list.now _ _
    _ c.split_at.ensures.front c.split_at.ensures.back
    (inl (none_above _ c.list_length.result c.list_length.ensures
    c.in_default-list_length.not-Some))

pub returns-in_default-list_length-2 : goal.returns-in_default-list_length-2
returns-in_default-list_length-2 t c =
    sum_past (λ p. composition_length p (terms_each c.args.images.now)) terms_in c.args.list.now _ _
    _ c.split_at.ensures.front c.split_at.ensures.back
    (inr (none_above _ c.list_length-in_default.result c.list_length-in_default.ensures
    c.in_default-list_length-2.not-Some))

pub returns-in-Some-list_length : goal.returns-in-Some-list_length
returns-in-Some-list_length t c =
    let left = some_is _ c.in-Some.left c.list_length.result c.list_length.ensures c.in-Some.is in
    let right = some_is _ c.in-Some-list_length.right c.list_length-in_default.result
    c.list_length-in_default.ensures c.in-Some-list_length.is in
    sum_parts (λ p. composition_length p (terms_each c.args.images.now)) terms_in c.args.list.now _
    _ _ c.split_at.ensures.front c.split_at.ensures.back
    c.in-Some.left c.in-Some-list_length.right c.sum.result left.0 right.0 c.sum.ensures
