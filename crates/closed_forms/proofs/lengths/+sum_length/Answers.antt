use Rattle.std.proofs.Common.{ℕ, List, inl, inr, subst, ◌∙◌}
use Rattle.algebra.specs.Fraction.{Fraction}
use Rattle.algebra.proofs.Lists.{nil_from_length, one_from_length}
use Rattle.frac128.specs.FracMeaning.{fraction_of}
use Rattle.poly.specs.View.{term_of}
use Rattle.expansion.specs.Counts.{IsCount}
use Rattle.expansion.specs.Lengths.{product_length}
use Rattle.expansion.proofs.Counting.{of_zero, none_above, some_is, count_of}
use Rattle.expansion.proofs.LengthLaws.{sum_none, sum_one, sum_past, sum_parts}
use Rattle.closed_forms.proofs.lengths.+sum_length.Goals as goal

abbrev length_by : List ℕ → List ℕ × Fraction → ℕ
length_by ns t = product_length ns t.0

pub returns-in-empty : goal.returns-in-empty
returns-in-empty t c =
    of_zero _ (sum_none (length_by c.args.sums.now) (term_of fraction_of) _
    (nil_from_length _ c.in-empty.len_below))

pub returns-in-len1 : goal.returns-in-len1
returns-in-len1 t c =
    let one = one_from_length _ _ c.in-len1.len_at_least c.in-len1.len_below c.term-item.is in
    let ns = c.args.sums.now in
    count_of _ _ _ (sum_one (length_by ns) (term_of fraction_of) _ _ one) (subst (λ e. IsCount
    (product_length ns e) c.product_length.result)
    (c.as_slice.ensures ∙ c.exponents.ensures.exponents) c.product_length.ensures)

pub returns-in_default-sum_length : goal.returns-in_default-sum_length
returns-in_default-sum_length t c =
    sum_past (length_by c.args.sums.now) (term_of fraction_of) _ _ _ _
    c.split_at.ensures.front c.split_at.ensures.back
    (inl (none_above _ _ c.sum_length.ensures c.in_default-sum_length.not-Some))

pub returns-in_default-sum_length-2 : goal.returns-in_default-sum_length-2
returns-in_default-sum_length-2 t c =
    sum_past (length_by c.args.sums.now) (term_of fraction_of) _ _ _ _ c.split_at.ensures.front
    c.split_at.ensures.back (inr (none_above _ _ c.sum_length-in_default.ensures
    c.in_default-sum_length-2.not-Some))

pub returns-in-Some-sum_length : goal.returns-in-Some-sum_length
returns-in-Some-sum_length t c =
    let left = some_is _ _ _ c.sum_length.ensures c.in-Some.is in
    let right = some_is _ _ _ c.sum_length-in_default.ensures c.in-Some-sum_length.is in
    sum_parts (length_by c.args.sums.now) (term_of fraction_of) _ _ _ _
    c.split_at.ensures.front c.split_at.ensures.back _ _ _ left.0 right.0 c.sum.ensures
