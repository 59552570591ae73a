use Rattle.std.proofs.Common.{arith, inl}
use Rattle.std.proofs.lemmas.List.{length-map}
use Rattle.poly.specs.Seen.{terms_in, terms_each}
use Rattle.loop_model.proofs.Items.{past_list}
use Rattle.expansion.proofs.Counting.{none_above, some_is}
use Rattle.expansion.proofs.Counting as counting
use Rattle.program_checker.proofs.Choosing.{dropped_item, dropped_past}
use Rattle.program_checker.proofs.Summing.{here_each, here_chosen, cofactor_at, generator_at}
use Rattle.program_checker.proofs.limits.row_terms.Goals as goal
use Rattle.program_checker.proofs.limits.row_terms.Goals.{After-pair_terms}
use Rattle.std.proofs.Common.{◌≡◌, ◌+◌, ◌∷◌, drop}
use Rattle.program_checker.specs.Rows.{chosen}

module _ (c : After-pair_terms) where
  left_is : drop c.loop-i.i (terms_each c.args.row.now.cofactors.items)
      ≡ terms_in c.cofactor-item.result
      ∷ drop (c.loop-i.i + 1) (terms_each c.args.row.now.cofactors.items)
  left_is = dropped_item _ c.loop-i.i _
      (here_each 0 _ c.deref-cofactor-items.ensures.value c.args.generators.now.items
      c.args.row.now.positions.items c.requires.count c.requires.ascend c.loop-i.i
      c.loop-i-test.true)
      (cofactor_at 0 _ c.deref-cofactor-items.ensures.value c.args.generators.now.items
      c.args.row.now.positions.items c.requires.count c.requires.ascend c.loop-i.i
      c.loop-i-test.true _ c.cofactor-item.is)

  right_is : drop c.loop-i.i
      (chosen (terms_each c.args.generators.now.items) c.args.row.now.positions.items)
      ≡ terms_in c.index-generator.result.now ∷ drop (c.loop-i.i + 1)
      (chosen (terms_each c.args.generators.now.items) c.args.row.now.positions.items)
  right_is = dropped_item _ c.loop-i.i _
      (here_chosen 0 _ c.deref-cofactor-items.ensures.value c.args.generators.now.items
      c.args.row.now.positions.items c.requires.count c.requires.ascend c.loop-i.i
      c.loop-i-test.true)
      (generator_at 0 _ c.deref-cofactor-items.ensures.value c.args.generators.now.items
      c.args.row.now.positions.items c.requires.count c.requires.ascend c.loop-i.i
      c.loop-i-test.true c.index.result.now c.index.ensures _ c.index-generator.ensures)

pub returns-in_default : goal.returns-in_default
returns-in_default c =
    let at = (goal.at.returns-in_default c).After-pair_terms in
    counting.combined_past_term (terms_in c.cofactor-item.result)
    (terms_in c.index-generator.result.now)
    _ _ _ _ c.loop-i.total _ (left_is at) (right_is at) c.loop-i.invariant.is
    (none_above _ c.pair_terms.result c.pair_terms.ensures c.in_default.not-Some)

pub returns-in_default-sum : goal.returns-in_default-sum
returns-in_default-sum c =
    let at = (goal.at.returns-in_default-sum c).After-pair_terms in
    let terms = some_is _ c.in-Some.terms c.pair_terms.result c.pair_terms.ensures c.in-Some.is in
    counting.combined_past_sum (terms_in c.cofactor-item.result)
    (terms_in c.index-generator.result.now)
    _ _ _ _ c.loop-i.total c.in-Some.terms _ (left_is at) (right_is at) c.loop-i.invariant.is
    terms.0 (none_above _ c.sum.result c.sum.ensures c.in_default-sum.not-Some)

pub loop-i-preserved : goal.loop-i-preserved
loop-i-preserved c =
    let at = (goal.at.loop-i-preserved c).After-pair_terms in
    let terms = some_is _ c.in-Some.terms c.pair_terms.result c.pair_terms.ensures c.in-Some.is in
    let next = some_is _ c.in-Some-sum.next c.sum.result c.sum.ensures c.in-Some-sum.is in
    record {
      is =
          counting.combined_next (terms_in c.cofactor-item.result)
          (terms_in c.index-generator.result.now)
          _ _ _ _ c.loop-i.total c.in-Some.terms c.in-Some-sum.next _ (left_is at) (right_is at)
          c.loop-i.invariant.is terms.0 next.0;
      few = omega (arith, next.0, next.1);
    }

pub returns : goal.returns
returns c =
    let past = past_list _ _ c.deref-cofactor-items.ensures.value c.loop-i.i c.loop-i-test.false in
    counting.combined_all _ _ c.loop-i.total _
    (inl (dropped_past (terms_each c.args.row.now.cofactors.items) c.loop-i.i
    (omega (arith, past, length-map c.args.row.now.cofactors.items terms_in))))
    c.loop-i.invariant.is c.loop-i.invariant.few
