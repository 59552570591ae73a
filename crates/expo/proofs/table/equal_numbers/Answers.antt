use Rattle.std.proofs.Common.{◌∙◌, ◌+◌, ◌-◌, length, refl, ap, arith, rules}
use Rattle.std.proofs.lemmas.List.{length-set}
use Rattle.expo.proofs.Binomials.{some_natural}
use Rattle.expo.proofs.Tables.{equal_first, equal_step, equal_done, first_zero, given_equal, equal_sum_past, equal_difference_past, equal_quotient_past}
use Rattle.expo.proofs.table.equal_numbers.Goals as goal

pub weighed_sum-requires-clause-given : goal.weighed_sum-requires-clause-given
weighed_sum-requires-clause-given c = given_equal c.loop-row.row _ c.loop-row-test.true
    c.frac_of_usize-divisor.ensures

pub weighed_sum-requires-clause-before : goal.weighed_sum-requires-clause-before
weighed_sum-requires-clause-before c = omega (
  arith,
  c.loop-row.invariant.table.within,
  c.loop-row.invariant.count,
  c.loop-row-test.true,
  ap length c.deref.ensures.value,
)

pub weighed_sum-requires-clause-few : goal.weighed_sum-requires-clause-few
weighed_sum-requires-clause-few c = omega (
  arith,
  c.loop-row.invariant.count,
  c.requires.degree,
  ap length c.deref.ensures.value,
)

pub div-requires : goal.div-requires
div-requires c = some_natural c.loop-row.row _ c.loop-row-test.true c.frac_of_usize-divisor.ensures

pub returns-clause-table : goal.returns-clause-table
returns-clause-table c = equal_done _ _ c.loop-row.row _ _ (omega (arith, c.loop-row-test.false))
    c.loop-row.invariant.table

pub returns-in_err-sum-clause-wide : goal.returns-in_err-sum-clause-wide
returns-in_err-sum-clause-wide c =
    λ x. equal_sum_past _ _ _ _ _ _ c.deref.ensures.value c.loop-row.invariant.table
    c.loop-row.invariant.count c.loop-row-test.true (c.in_err-sum.ensures.wide refl)

pub returns-in_err-sub-clause-wide : goal.returns-in_err-sub-clause-wide
returns-in_err-sub-clause-wide c =
    λ x. equal_difference_past _ _ _ _ _ _ c.deref.ensures.value c.loop-row.invariant.table
    c.loop-row.invariant.count c.loop-row-test.true _ c.in_ok-sum.ensures.sum
    (c.in_err-sub.ensures.wide.0 refl)

pub returns-in_err-numbers-2-clause-wide : goal.returns-in_err-numbers-2-clause-wide
returns-in_err-numbers-2-clause-wide c =
    λ x. equal_quotient_past _ _ _ _ _ _ c.deref.ensures.value c.loop-row.invariant.table
    c.loop-row.invariant.count c.loop-row-test.true _ c.in_ok-sum.ensures.sum _ _
    c.in_ok-sub.ensures.ok c.frac_of_usize-divisor.ensures
    (some_natural c.loop-row.row _ c.loop-row-test.true c.frac_of_usize-divisor.ensures)
    (c.in_err-numbers-2.ensures.wide.0 refl)

pub loop-row-init : goal.loop-row-init
loop-row-init c = record {
  count = search rules;
  table =
      equal_first _ _ _ _ _ refl (first_zero _ _ c.zero.result
      (c.in_ok-numbers.ensures.items_if_clones_equal (λ y h. h)) c.zero.ensures)
      c.reciprocal-start.ensures;
}

pub loop-row-preserved : goal.loop-row-preserved
loop-row-preserved c = record {
  count = length-set c.loop-row.numbers.items (c.loop-row.row - 1 + 1) c.in_ok-numbers-2.field-0
      ∙ c.loop-row.invariant.count;
  table = equal_step _ _ _ _ _ _ c.deref.ensures.value c.loop-row.invariant.table
      c.loop-row.invariant.count c.loop-row-test.true _ c.in_ok-sum.ensures.sum _ _
      c.in_ok-sub.ensures.ok c.frac_of_usize-divisor.ensures c.in_ok-numbers-2.field-0 _
      c.in_ok-numbers-2.ensures.ok c.zero-start.ensures;
}
