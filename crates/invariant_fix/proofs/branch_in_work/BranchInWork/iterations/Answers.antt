use Rattle.std.proofs.Common.{◌≡◌, ◌+◌, suc, sym, subst, ◌∙◌, arith}
use Rattle.std.proofs.lemmas.Result.{err_from_is_err_and}
use Rattle.poly.specs.Seen.{terms_each}
use Rattle.invariant_fix.specs.InWork.{Awaits, KnowsIterations, iteration_begins, iteration_meets, iteration_met}
use Rattle.invariant_fix.proofs.Lists.{known_later, in_work_later}
use Rattle.invariant_fix.proofs.Works.{since_at}
use Rattle.invariant_fix.proofs.Branching.{IsTaken, iteration_due, iteration_meet_due, iterations_go_on, next_iteration, iterations_end}
use Rattle.invariant_fix.proofs.branch_in_work.BranchInWork.iterations.Goals.{Start, After-deref-in-loop-taken}
use Rattle.invariant_fix.proofs.branch_in_work.BranchInWork.iterations.Goals as goal

-- ---- the first iteration
due : (c : Start) → Awaits c.args.self.now c.args.meter.now
    (iteration_begins c.args.self.now 0 c.args.self.now.basis.now (terms_each c.args.so_far.now))
due c = iteration_due c.args.self.now c.args.meter.now c.args.so_far.now c.requires.iterations
    c.requires.next

pub returns-in_err-before-clause-err : goal.returns-in_err-before-clause-err
returns-in_err-before-clause-err c =
    let p = err_from_is_err_and c.from_residual.result c.from_residual.ensures.1 in
    rw (p.1, p.2) (c.in_err-before.ensures.err (terms_each c.args.so_far.now)
    (due (goal.at.returns-in_err-before-clause-err c).Start))

pub meet_with_iteration-requires-clause-at : goal.meet_with_iteration-requires-clause-at
meet_with_iteration-requires-clause-at c = in_work_later c.requires.at c.in_ok-before.ensures.units

pub meet_with_iteration-requires-clause-next : goal.meet_with_iteration-requires-clause-next
meet_with_iteration-requires-clause-next c =
    let w = c.args.self.now in
    let so_far = c.args.so_far.now in
    subst (λ ks. Awaits w c.iteration.new.meter (iteration_meets w 0 so_far ks))
    (sym c.deref.ensures.value) (iteration_meet_due w c.iteration.new.meter 0 _ so_far _
    (c.in_ok-before.ensures.next (terms_each so_far)
    (due (goal.at.meet_with_iteration-requires-clause-next c).Start)))

pub loop-taken-init : goal.loop-taken-init
loop-taken-init c =
    let w = c.args.self.now in
    let new = c.meet_with_iteration.new.meter in
    let a = c.in_ok-before.ensures.units in
    let b = c.in_ok-so_far.ensures.units in
    record {
      limit = c.in_ok-so_far.ensures.limit ∙ c.in_ok-before.ensures.limit;
      from = omega arith;
      at = in_work_later c.requires.at (omega (arith, a, b));
      before = known_later _ _ c.in_ok-before.ensures.list b;
      so_far = c.in_ok-so_far.ensures.list;
      next = iterations_go_on w new 0 _ _ _
          (subst (λ ks. Awaits w new (iteration_met w 0 c.args.so_far.now ks
          c.in_ok-so_far.so_far.items)) c.deref.ensures.value c.in_ok-so_far.ensures.met);
      units = omega (arith, a, b);
    }

-- ---- the iterations behind it
due_again : (c : After-deref-in-loop-taken) → Awaits c.args.self.now c.loop-taken.meter
    (iteration_begins c.args.self.now c.loop-taken.taken c.deref-in-loop-taken.result.now
    (terms_each c.loop-taken.so_far.items))
due_again c =
    let w = c.args.self.now in
    let hs = c.loop-taken.so_far.items in
    let n = c.loop-taken.taken in
    let e = since_at c.requires.at c.index.result.now c.index.ensures in
    let l = c.loop-taken-test.true in
    subst (λ ks. Awaits w c.loop-taken.meter (iteration_begins w n ks (terms_each hs)))
    (sym c.deref-in-loop-taken.ensures.value)
    (next_iteration w c.loop-taken.meter n _ hs (omega (arith, e, l)) c.loop-taken.invariant.next)

pub returns-in_err-before-2-clause-err : goal.returns-in_err-before-2-clause-err
returns-in_err-before-2-clause-err c =
    let r = c.from_residual-in_err-before-2 in
    let p = err_from_is_err_and r.result r.ensures.1 in
    rw (p.1, p.2) (c.in_err-before-2.ensures.err (terms_each c.loop-taken.so_far.items)
    (due_again (goal.at.returns-in_err-before-2-clause-err c).After-deref-in-loop-taken))

pub meet_with_iteration-requires-in-loop-taken-clause-next :
    goal.meet_with_iteration-requires-in-loop-taken-clause-next
meet_with_iteration-requires-in-loop-taken-clause-next c =
    let w = c.args.self.now in
    let n = c.loop-taken.taken in
    let mid = c.iteration-in-loop-taken.new.meter in
    let hs = c.loop-taken.so_far.items in
    let at = goal.at.meet_with_iteration-requires-in-loop-taken-clause-next c in
    subst (λ xs. Awaits w mid (iteration_meets w n xs c.deref-in-loop-taken-3.result.now))
    (sym c.deref-in-loop-taken-2.ensures.value) (subst (λ ks. Awaits w mid
    (iteration_meets w n hs ks)) (sym c.deref-in-loop-taken-3.ensures.value) (iteration_meet_due w
    mid n _ hs _
    (c.in_ok-before-2.ensures.next (terms_each hs) (due_again at.After-deref-in-loop-taken))))

pub loop-taken-preserved : goal.loop-taken-preserved
loop-taken-preserved c =
    let w = c.args.self.now in
    let n = c.loop-taken.taken in
    let new = c.meet_with_iteration-in-loop-taken.new.meter in
    let i = c.loop-taken.invariant in
    let x = i.units in
    let a = c.in_ok-before-2.ensures.units in
    let b = c.in_ok-so_far-2.ensures.units in
    let ks = c.in_ok-before-2.before.items in
    let ls = c.in_ok-so_far-2.so_far.items in
    let one : suc n ≡ n + 1 = omega arith in
    record {
      limit = c.in_ok-so_far-2.ensures.limit ∙ c.in_ok-before-2.ensures.limit ∙ i.limit;
      from = omega arith;
      at = in_work_later i.at (omega (arith, a, b));
      before = subst (λ m. KnowsIterations w m new ks) one
          (known_later _ _ c.in_ok-before-2.ensures.list b);
      so_far = c.in_ok-so_far-2.ensures.list;
      next = subst (λ m. IsTaken w new m ks ls) one
          (iterations_go_on w new n _ ks ls (subst (λ hs. Awaits w new (iteration_met w n hs ks ls))
          c.deref-in-loop-taken-2.ensures.value (subst (λ xs. Awaits w new (iteration_met w n
          c.deref-in-loop-taken-2.result.now xs ls)) c.deref-in-loop-taken-3.ensures.value
          c.in_ok-so_far-2.ensures.met)));
      units = omega (arith, x, a, b);
    }

pub returns-clause-next : goal.returns-clause-next
returns-clause-next c =
    let e = since_at c.requires.at c.index.result.now c.index.ensures in
    let l = c.loop-taken-test.false in
    iterations_end c.args.self.now c.loop-taken.meter c.loop-taken.taken _ _ (omega (arith, e, l))
    c.loop-taken.invariant.next
