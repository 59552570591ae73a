use Rattle.std.proofs.Common.{inl, inr, drop, subst, ◌∙◌}
use Rattle.algebra.proofs.Lists.{nil_from_length, one_from_length}
use Rattle.frac128.specs.FracMeaning.{fraction_of}
use Rattle.poly.specs.Seen.{terms_each}
use Rattle.poly.specs.View.{term_of}
use Rattle.expansion.specs.Counts.{IsCount}
use Rattle.expansion.specs.Lengths.{product_length}
use Rattle.expansion.proofs.Counting.{of_zero, none_above, some_is, count_of}
use Rattle.expansion.proofs.LengthLaws.{sum_none, sum_one, sum_past, sum_parts}
use Rattle.invariant_fix.specs.Long.{lengths_told, term_behind}
use Rattle.invariant_fix.proofs.lengths.+sum_before.Goals as goal

pub returns-in-empty : goal.returns-in-empty
returns-in-empty t c =
    let ns = lengths_told c.args.passing.now (terms_each c.args.back.now) in
    of_zero _ (sum_none (term_behind c.args.front ns) (term_of fraction_of) _
    (nil_from_length c.args.terms.now c.in-empty.len_below))

pub returns-in-len1 : goal.returns-in-len1
returns-in-len1 t c =
    let one = one_from_length _ _ c.in-len1.len_at_least c.in-len1.len_below c.term-item.is in
    let ns = lengths_told c.args.passing.now (terms_each c.args.back.now) in
    count_of _ _ _ (sum_one (term_behind c.args.front ns) (term_of fraction_of) _ _ one)
    (subst (λ e. IsCount (product_length ns (drop c.args.front e)) c.product_behind.result)
    (c.as_slice.ensures ∙ c.exponents.ensures.exponents) c.product_behind.ensures)

pub returns-in_default-sum_before : goal.returns-in_default-sum_before
returns-in_default-sum_before t c =
    let ns = lengths_told c.args.passing.now (terms_each c.args.back.now) in
    sum_past (term_behind c.args.front ns) (term_of fraction_of) _ _ _ _ c.split_at.ensures.front
    c.split_at.ensures.back
    (inl (none_above _ _ c.sum_before.ensures c.in_default-sum_before.not-Some))

pub returns-in_default-sum_before-2 : goal.returns-in_default-sum_before-2
returns-in_default-sum_before-2 t c =
    let ns = lengths_told c.args.passing.now (terms_each c.args.back.now) in
    sum_past (term_behind c.args.front ns) (term_of fraction_of) _ _ _ _ c.split_at.ensures.front
    c.split_at.ensures.back
    (inr (none_above _ _ c.sum_before-in_default.ensures c.in_default-sum_before-2.not-Some))

pub returns-in-Some-sum_before : goal.returns-in-Some-sum_before
returns-in-Some-sum_before t c =
    let ns = lengths_told c.args.passing.now (terms_each c.args.back.now) in
    let left = some_is _ _ _ c.sum_before.ensures c.in-Some.is in
    let right = some_is _ _ _ c.sum_before-in_default.ensures c.in-Some-sum_before.is in
    sum_parts (term_behind c.args.front ns) (term_of fraction_of) _ _
    _ _ c.split_at.ensures.front c.split_at.ensures.back _ _ _ left.0 right.0 c.sum.ensures
