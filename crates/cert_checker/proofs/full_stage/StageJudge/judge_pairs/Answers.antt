use Rattle.std.proofs.Common.{◌≡◌, ◌≢◌, ◌<◌, ◌+◌, ◌↔◌, ℕ, List, [], IsTrue, get_or, length, sym, ap, subst, subst₂, ◌∙◌, arith}
use Rattle.std.specs.Prelude.{All, IfOk, IsErrOf, vec_len}
use Rattle.std.proofs.lemmas.List.{length-map}
use Rattle.algebra.specs.Fraction.{Fraction}
use Rattle.polynomials.specs.Terms.{Terms}
use Rattle.ring_laws.specs.declared.ArithmeticError.TheVariants as arithmetic_error
use Rattle.poly.specs.Seen.{terms_in, terms_each, IsImage}
use Rattle.corollaries.specs.Representation.{pairs_of}
use Rattle.corollaries.specs.Stage.{in_pairs, block_order}
use Rattle.loop_model.proofs.Items.{in_list, item_of}
use Rattle.task_lists.specs.Images.{in_blocks}
use Rattle.task_lists.proofs.Places.{pairs_within}
use Rattle.cert_checker.specs.StageJudge.{stage_seen, HoldsBy, IsPastBy}
use Rattle.cert_checker.specs.StageParts.{pair_of}
use Rattle.cert_checker.specs.declared.full_stage.StageJudge.{StageJudge}
use Rattle.cert_checker.proofs.Stopping.{here_stops, more_hold, passed_on}
use Rattle.cert_checker.proofs.StageSteps.{row_is, monic_each, pair_is, pair_tells, pair_past, row_fits, row_has}
use Rattle.cert_checker.proofs.full_stage.StageJudge.judge_pairs.Goals as goal
use Rattle.cert_checker.proofs.full_stage.StageJudge.judge_pairs.Goals.{After-row-item, After-deref-in-loop-i, After-is_lcm_representation}

-- the row at this place
module _ (c : After-row-item) where
  abbrev s : StageJudge
  s = c.args.self.now

  inside : c.loop-i.i < length s.stage.now.pairs.items
  inside = in_list _ _ c.deref-row-items.ensures.value _ c.loop-i-test.true

  item : c.row-item.result ≡ get_or s.stage.now.pairs.items c.loop-i.i c.row-item.result
  item = item_of _ _ c.deref-row-items.ensures.value _ _ c.row-item.is

  within : c.loop-i.i < length (pairs_of (length (stage_seen s).list))
  within =
      let n = length-map s.stage.now.pairs.items (λ row. terms_each row.items) in
      let l = inside in
      omega (arith, l, n, c.requires.judge.counts.pairs)

  size : vec_len s.stage.now.list ≡ length (stage_seen s).list
  size = s.stage.now.list.ok.0 ∙ sym (length-map s.stage.now.list.items terms_in)

pub index-requires : goal.index-requires
index-requires c =
    let at = (goal.at.index-requires c).After-row-item in
    let l = within at in
    let n = ap length (c.in-Ok.ensures ∙ ap pairs_of (c.len.ensures ∙ size at)) in
    let held = c.in-Ok.all.ok.0 in
    omega (arith, l, n, held)

-- what its pair is judged by
module _ (c : After-deref-in-loop-i) where
  abbrev at_row : After-row-item
  at_row = (goal.at.After-deref-in-loop-i c).After-row-item

  abbrev seen : List (Terms Fraction)
  seen = (stage_seen (s at_row)).list

  pair : c.index.result.now ≡ pair_of seen c.loop-i.i
  pair = pair_is c.in-Ok.all.items c.len.result (length seen) c.loop-i.i c.index.result.now
      c.index.ensures c.in-Ok.ensures (c.len.ensures ∙ size at_row) (within at_row)

  places : (c.index.result.now.0 < length c.deref.result.now)
      × (c.index.result.now.1 < length c.deref.result.now)
  places = subst₂ (λ (a : ℕ × ℕ) k. (a.0 < k) × (a.1 < k)) (sym pair)
      (length-map c.args.self.now.stage.now.list.items terms_in
      ∙ sym (ap length c.deref.ensures.value)) (pairs_within _ c.loop-i.i (within at_row))

pub is_lcm_representation-requires-clause-left : goal.is_lcm_representation-requires-clause-left
is_lcm_representation-requires-clause-left c =
    (places (goal.at.is_lcm_representation-requires-clause-left c).After-deref-in-loop-i).0

pub is_lcm_representation-requires-clause-right : goal.is_lcm_representation-requires-clause-right
is_lcm_representation-requires-clause-right c =
    (places (goal.at.is_lcm_representation-requires-clause-right c).After-deref-in-loop-i).1

pub is_lcm_representation-requires-clause-count : goal.is_lcm_representation-requires-clause-count
is_lcm_representation-requires-clause-count c =
    let at = (goal.at.is_lcm_representation-requires-clause-count c).After-row-item in
    let list = c.args.self.now.stage.now.list in
    let pairs = c.args.self.now.stage.now.pairs.items in
    row_fits pairs list c.requires.judge.counts.pairs_widths c.loop-i.i
    (inside at) (item at) c.deref-in-loop-i.ensures.value c.deref.ensures.value

pub is_lcm_representation-requires-clause-cofactors :
    goal.is_lcm_representation-requires-clause-cofactors
is_lcm_representation-requires-clause-cofactors c =
    let at = (goal.at.is_lcm_representation-requires-clause-cofactors c).After-row-item in
    let j = c.args.self.now in
    subst (All (IsImage (in_blocks j.front) (j.front + j.variables)))
    (sym c.deref-in-loop-i.ensures.value)
    (row_has _ (IsImage (in_blocks j.front) (j.front + j.variables))
    c.requires.judge.images.pairs c.loop-i.i (inside at) (item at))

pub is_lcm_representation-requires-clause-nonzero :
    goal.is_lcm_representation-requires-clause-nonzero
is_lcm_representation-requires-clause-nonzero c =
    let list = c.args.self.now.stage.now.list.items in
    subst (All (λ p. terms_in p ≢ [])) (sym c.deref.ensures.value)
    (monic_each terms_in list (λ i l. c.requires.monic i
    (let n = length-map list terms_in in omega (arith, l, n))))

-- what is told of the row of a pair
module _ (c : After-is_lcm_representation) where
  abbrev at_pair : After-deref-in-loop-i
  at_pair = (goal.at.After-is_lcm_representation c).After-deref-in-loop-i

  abbrev judge : StageJudge
  judge = c.args.self.now

  row : terms_each c.deref-in-loop-i.result.now ≡ get_or (stage_seen judge).pairs c.loop-i.i []
  row = ap terms_each c.deref-in-loop-i.ensures.value
      ∙ row_is (λ r. terms_each r.items) _ c.loop-i.i (inside (at_row at_pair))
      (item (at_row at_pair))

  tells : IfOk c.is_lcm_representation.result
      (λ b. IsTrue b ↔ HoldsBy judge (in_pairs c.loop-i.i))
  tells = pair_tells c.is_lcm_representation.result (block_order judge.front) _
      (stage_seen judge).list c.index.result.now _ (ap terms_each c.deref.ensures.value)
      (pair at_pair) row c.is_lcm_representation.ensures.holds

  wide : IsErrOf c.is_lcm_representation.result arithmetic_error.Wide
      → IsPastBy judge (in_pairs c.loop-i.i)
  wide = pair_past _ _ (stage_seen judge).list c.index.result.now _
      (ap terms_each c.deref.ensures.value) (pair at_pair) row c.is_lcm_representation.ensures.wide

pub loop-i-preserved : goal.loop-i-preserved
loop-i-preserved c = more_hold _ c.loop-i.i c.loop-i.invariant c.in_ok-told.ensures.holds
    (tells (goal.at.loop-i-preserved c).After-is_lcm_representation)

pub returns-in_err-told-clause-stops : goal.returns-in_err-told-clause-stops
returns-in_err-told-clause-stops c =
    let e = (goal.at.returns-in_err-told-clause-stops c).After-is_lcm_representation in
    passed_on _ _ _ c.from_residual.ensures.1 (here_stops _ _ _ c.loop-i.i
    (within (at_row (at_pair e))) c.loop-i.invariant _ (tells e)
    (wide e) _ c.in_err-told.ensures.stops)

pub returns-clause-holds : goal.returns-clause-holds
returns-clause-holds c =
    let n = length-map c.args.self.now.stage.now.pairs.items (λ row. terms_each row.items) in
    let size = ap length c.deref-row-items.ensures.value in
    λ j l. c.loop-i.invariant j
    (omega (arith, l, c.loop-i-test.false, n, size, c.requires.judge.counts.pairs))
