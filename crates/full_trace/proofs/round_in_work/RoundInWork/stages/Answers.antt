use Rattle.std.proofs.Common.{◌≡◌, ◌+◌, ◌<◌, [], ◌∷◌, ◌++◌, map, take, length, refl, sym, ap, subst, ◌∙◌, arith, None}
use Rattle.std.proofs.lemmas.List.{length-append}
use Rattle.task_lists.specs.View.{branch_in}
use Rattle.task_lists.specs.declared.parts.FullBranch.{FullBranch}
use Rattle.corollaries.proofs.Rounds.{first_at, round_at}
use Rattle.full_trace.specs.Tasks.{Knows, fronts_of, AreBranchesOver, after_row}
use Rattle.full_trace.proofs.RowsMade.{passed}
use Rattle.full_trace.proofs.RoundsMade.{row_last, branch_pushed, fronts_count, none_left, in_work_later, lost, first_done, branch_done, known_row, branch_due}
use Rattle.full_trace.proofs.round_in_work.RoundInWork.stages.Goals.{After-deref}
use Rattle.full_trace.proofs.round_in_work.RoundInWork.stages.Goals as goal

pub returns-in_err-first-clause-refused : goal.returns-in_err-first-clause-refused
returns-in_err-first-clause-refused c = λ R d A i a.
    passed _ _ _ c.from_residual.ensures.1
    (c.in_err-first.ensures.refused R d [] A i a)

pub returns-in_err-push-clause-refused : goal.returns-in_err-push-clause-refused
returns-in_err-push-clause-refused c = λ R d A i a.
    passed _ _ _ c.from_residual-in_err-push.ensures.1
    (lost A R _ (c.in_ok-first.ensures.next R d [] A i a))

pub loop-place-init : goal.loop-place-init
loop-place-init c =
    let w = c.args.self.now in
    let s = w.setting.now in
    let b : FullBranch = record { orbit = c.in_ok-first.first; meet = None } in
    let news = c.push.new.self.items in
    let e : news ≡ b ∷ [] = c.in_ok-push.ensures.items
    ∙ ap (λ xs. xs ++ b ∷ []) c.new-done.ensures.items in
    let some : 0 < length (fronts_of s) =
    (let x = fronts_count s in let y = c.requires.round.fits.some_branch in
    omega (arith, x, y)) in
    record {
      limit = c.orbit.ensures.limit;
      from = omega arith;
      count = ap length e;
      round = in_work_later c.requires.round c.in_ok-first.ensures.units;
      so_far = known_row s w.basis.now [] b news e c.in_ok-first.ensures.list;
      over = subst (AreBranchesOver s.arity (take 1 (fronts_of s))) (sym e)
          (branch_pushed s.arity _ [] b 0 refl some tt
          (record { orbit = c.in_ok-first.ensures.over; meet = tt }));
      next = λ R d A i a. first_done A R d w.round w.basis.now _ b news e
          (first_at A R d _ w.round _ _ (c.in_ok-first.ensures.next R d [] A i a));
    }

so_far_is : (c : After-deref)
    → c.deref.result.now ≡ (after_row c.args.self.now.basis.now c.loop-place.done.items).items
so_far_is c =
    let n = c.loop-place.invariant.count in
    let f = c.loop-place.invariant.from in
    c.deref.ensures.value ∙ ap (λ v. v.items) (c.given-so_far.ensures
    ∙ sym (row_last c.args.self.now.basis.now _ _ (omega (arith, n, f)) c.index.ensures))

pub branch_stages-requires-clause-so_far : goal.branch_stages-requires-clause-so_far
branch_stages-requires-clause-so_far c =
    subst (Knows c.args.self.now.setting.now c.loop-place.meter)
    (sym (so_far_is (goal.at.branch_stages-requires-clause-so_far c).After-deref))
    c.loop-place.invariant.so_far

pub returns-in_err-branch-clause-refused : goal.returns-in_err-branch-clause-refused
returns-in_err-branch-clause-refused c = λ R d A i a.
    let at = (goal.at.returns-in_err-branch-clause-refused c).After-deref in
    passed _ _ _ c.from_residual-in_err-branch.ensures.1
    (c.in_err-branch.ensures.refused R d (map branch_in c.loop-place.done.items) A i (branch_due A R
    d c.args.self.now.round _ _ (so_far_is at) (c.loop-place.invariant.next R d A i a)))

pub returns-in_err-push-2-clause-refused : goal.returns-in_err-push-2-clause-refused
returns-in_err-push-2-clause-refused c = λ R d A i a.
    let at = (goal.at.returns-in_err-push-2-clause-refused c).After-deref in
    passed _ _ _ c.from_residual-in_err-push-2.ensures.1
    (lost A R _ (c.in_ok-branch.ensures.next R d (map branch_in c.loop-place.done.items) A i
    (branch_due A R d c.args.self.now.round _ _ (so_far_is at)
    (c.loop-place.invariant.next R d A i a))).comes)

pub loop-place-preserved : goal.loop-place-preserved
loop-place-preserved c =
    let w = c.args.self.now in
    let s = w.setting.now in
    let v = c.loop-place.invariant in
    let n = v.count in
    let f = v.from in
    let b = c.in_ok-branch.branch in
    let bs = c.loop-place.done.items in
    let p = c.loop-place.place in
    let news = c.push-in-loop-place.new.self.items in
    let push = c.in_ok-push-2.ensures.items in
    let inside : p < length (fronts_of s) =
    (let w = fronts_count s in let x = c.loop-place-test.true in
    let y = c.len-place-end.ensures in let z = s.branches.ok.0 in omega (arith, w, x, y, z)) in
    record {
      limit = c.branch_stages.ensures.limit ∙ v.limit;
      from = omega (arith, f);
      count = (let x = ap length push in let y = length-append bs (b ∷ []) in
          omega (arith, x, y, n));
      round = in_work_later v.round c.in_ok-branch.ensures.units;
      so_far = known_row s w.basis.now bs b news push
          c.in_ok-branch.ensures.list;
      over = subst (AreBranchesOver s.arity (take (p + 1) (fronts_of s))) (sym push)
          (branch_pushed s.arity _ bs b p n inside v.over c.in_ok-branch.ensures.over);
      next = λ R d A i a. branch_done A R d w.round w.basis.now _ bs (p + 1) b news push
          (c.in_ok-branch.ensures.next R d (map branch_in bs) A i (branch_due A R d w.round _ bs
          (so_far_is (goal.at.loop-place-preserved c).After-deref) (v.next R d A i a)));
    }

pub returns-clause-next : goal.returns-clause-next
returns-clause-next c = λ R d A i a.
    let w = c.args.self.now in
    round_at A R d _ w.round _ _ _ _ (c.loop-place.invariant.next R d A i a) (none_left A i _
    (let x = c.loop-place-test.false in let y = c.len-place-end.ensures in
    let z = w.setting.now.branches.ok.0 in omega (arith, x, y, z)))
