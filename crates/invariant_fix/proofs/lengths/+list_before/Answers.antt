use Rattle.std.proofs.Common.{inl, inr, ap, subst, ◌∙◌}
use Rattle.algebra.proofs.Lists.{nil_from_length, one_from_length}
use Rattle.frac128.specs.FracMeaning.{fraction_of}
use Rattle.poly.specs.Seen.{terms_in, terms_each}
use Rattle.poly.specs.View.{terms_of}
use Rattle.expansion.specs.Counts.{IsCount}
use Rattle.expansion.proofs.Counting.{of_zero, none_above, some_is, count_of}
use Rattle.expansion.proofs.LengthLaws.{sum_none, sum_one, sum_past, sum_parts}
use Rattle.invariant_fix.specs.Long.{lengths_told, length_behind}
use Rattle.invariant_fix.proofs.lengths.+list_before.Goals as goal

pub returns-in-empty : goal.returns-in-empty
returns-in-empty t c =
    let ns = lengths_told c.args.passing.now (terms_each c.args.back.now) in
    of_zero _ (sum_none (length_behind c.args.front ns) terms_in _
    (nil_from_length c.args.list.now c.in-empty.len_below))

pub returns-in-len1 : goal.returns-in-len1
returns-in-len1 t c =
    let one = one_from_length _ _ c.in-len1.len_at_least c.in-len1.len_below c.element-item.is in
    let ns = lengths_told c.args.passing.now (terms_each c.args.back.now) in
    let read = c.deref.ensures.value ∙ ap (λ v. v.items) c.terms.ensures in
    count_of _ _ _ (sum_one (length_behind c.args.front ns) terms_in _ _ one) (subst (λ ts. IsCount
    (length_behind c.args.front ns (terms_of fraction_of ts)) c.sum_before.result) read
    c.sum_before.ensures)

pub returns-in_default-list_before : goal.returns-in_default-list_before
returns-in_default-list_before t c =
    let ns = lengths_told c.args.passing.now (terms_each c.args.back.now) in
    sum_past (length_behind c.args.front ns) terms_in _ _ _ _ c.split_at.ensures.front
    c.split_at.ensures.back
    (inl (none_above _ _ c.list_before.ensures c.in_default-list_before.not-Some))

pub returns-in_default-list_before-2 : goal.returns-in_default-list_before-2
returns-in_default-list_before-2 t c =
    let ns = lengths_told c.args.passing.now (terms_each c.args.back.now) in
    sum_past (length_behind c.args.front ns) terms_in _ _ _ _ c.split_at.ensures.front
    c.split_at.ensures.back
    (inr (none_above _ _ c.list_before-in_default.ensures c.in_default-list_before-2.not-Some))

pub returns-in-Some-list_before : goal.returns-in-Some-list_before
returns-in-Some-list_before t c =
    let ns = lengths_told c.args.passing.now (terms_each c.args.back.now) in
    let left = some_is _ _ _ c.list_before.ensures c.in-Some.is in
    let right = some_is _ _ _ c.list_before-in_default.ensures c.in-Some-list_before.is in
    sum_parts (length_behind c.args.front ns) terms_in _ _
    _ _ c.split_at.ensures.front c.split_at.ensures.back _ _ _ left.0 right.0 c.sum.ensures
