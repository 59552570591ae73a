use Rattle.std.proofs.Common.{◌∙◌, ◌-◌, length, refl, ap, arith, rules}
use Rattle.std.proofs.lemmas.List.{length-set}
use Rattle.expo.proofs.Tables.{other_first, other_step, other_done, first_binomial, nonzero_difference, divisor_past, other_sum_past, other_product_past, other_difference_past, other_quotient_past}
use Rattle.expo.proofs.table.other_numbers.Goals as goal

pub returns-in_err-divisor-clause-wide : goal.returns-in_err-divisor-clause-wide
returns-in_err-divisor-clause-wide c =
    λ e. divisor_past _ _ _ (c.in_err-divisor.ensures.wide.0 refl)

pub loop-row-init : goal.loop-row-init
loop-row-init c = record {
  count = search rules;
  table = other_first _ _ _ _ _ _ refl c.one-start.ensures;
}

pub weighed_sum-requires-clause-before : goal.weighed_sum-requires-clause-before
weighed_sum-requires-clause-before c = omega (
  arith,
  c.loop-row.invariant.table.within,
  c.loop-row.invariant.count,
  c.loop-row-test.true,
  ap length c.deref.ensures.value,
)

pub weighed_sum-requires-clause-few : goal.weighed_sum-requires-clause-few
weighed_sum-requires-clause-few c = omega (
  arith,
  c.loop-row.invariant.count,
  c.requires.degree,
  ap length c.deref.ensures.value,
)

pub weighed_sum-requires-clause-given : goal.weighed_sum-requires-clause-given
weighed_sum-requires-clause-given c = c.one.ensures ∙ first_binomial (c.loop-row.row - 1)

pub returns-in_err-sum-clause-wide : goal.returns-in_err-sum-clause-wide
returns-in_err-sum-clause-wide c =
    λ x. other_sum_past _ _ _ _ _ _ _ c.deref.ensures.value c.loop-row.invariant.table
    c.loop-row.invariant.count c.loop-row-test.true (c.in_err-sum.ensures.wide refl)

pub returns-in_err-mul-clause-wide : goal.returns-in_err-mul-clause-wide
returns-in_err-mul-clause-wide c =
    λ x. other_product_past _ _ _ _ _ _ _ c.deref.ensures.value c.loop-row.invariant.table
    c.loop-row.invariant.count c.loop-row-test.true _ c.in_ok-sum.ensures.sum
    (c.in_err-mul.ensures.wide.0 refl)

pub returns-in_err-sub-clause-wide : goal.returns-in_err-sub-clause-wide
returns-in_err-sub-clause-wide c =
    λ x. other_difference_past _ _ _ _ _ _ _ c.deref.ensures.value c.loop-row.invariant.table
    c.loop-row.invariant.count c.loop-row-test.true _ c.in_ok-sum.ensures.sum _
    c.in_ok-mul.ensures.ok (c.in_err-sub.ensures.wide.0 refl)

pub div-requires : goal.div-requires
div-requires c = nonzero_difference _ _ _ c.in_ok-divisor.ensures.ok c.requires.different

pub returns-in_err-numbers-2-clause-wide : goal.returns-in_err-numbers-2-clause-wide
returns-in_err-numbers-2-clause-wide c =
    λ x. other_quotient_past _ _ _ _ _ _ _ c.deref.ensures.value c.loop-row.invariant.table
    c.loop-row.invariant.count c.loop-row-test.true _ c.in_ok-sum.ensures.sum _
    c.in_ok-mul.ensures.ok _ _ c.in_ok-sub.ensures.ok c.in_ok-divisor.ensures.ok
    (nonzero_difference _ _ _ c.in_ok-divisor.ensures.ok c.requires.different)
    (c.in_err-numbers-2.ensures.wide.0 refl)

pub loop-row-preserved : goal.loop-row-preserved
loop-row-preserved c = record {
  count = length-set c.loop-row.numbers.items (c.loop-row.row - 1) c.in_ok-numbers-2.field-0
      ∙ c.loop-row.invariant.count;
  table = other_step _ _ _ _ _ _ _ c.deref.ensures.value c.loop-row.invariant.table
      c.loop-row.invariant.count c.loop-row-test.true _ c.in_ok-sum.ensures.sum _
      c.in_ok-mul.ensures.ok _ _ c.in_ok-sub.ensures.ok c.in_ok-divisor.ensures.ok
      c.in_ok-numbers-2.field-0 _ c.in_ok-numbers-2.ensures.ok c.zero-start.ensures;
}

pub returns-clause-table : goal.returns-clause-table
returns-clause-table c = other_done _ _ _ c.loop-row.row _ _ (omega (arith, c.loop-row-test.false))
    c.loop-row.invariant.table
