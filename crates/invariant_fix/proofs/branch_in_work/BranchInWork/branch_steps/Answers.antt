use Rattle.std.proofs.Common.{◌≡◌, ◌+◌, suc, is_some, ap, subst, ◌∙◌, arith}
use Rattle.std.proofs.lemmas.List.{length-map}
use Rattle.complete.proofs.Coming.{known}
use Rattle.poly.specs.Seen.{terms_in}
use Rattle.std.specs.Global.{Vec}
use Rattle.loop_model.specs.FracPoly.{FracPoly}
use Rattle.ideal_ops.specs.Calls.{AreOver}
use Rattle.algebra.proofs.Lists.{have_more}
use Rattle.invariant_fix.specs.InWork.{Awaits, tested}
use Rattle.invariant_fix.proofs.Lists.{in_work_later}
use Rattle.invariant_fix.proofs.Passing.{steps_more, test_now}
use Rattle.invariant_fix.proofs.branch_in_work.BranchInWork.branch_steps.Goals as goal

pub closing_step-requires-clause-next : goal.closing_step-requires-clause-next
closing_step-requires-clause-next c =
    let w = c.args.self.now in
    let size = length-map w.basis.now terms_in in
    let here = c.loop-element-test.true in
    test_now _ w.round w.place c.loop-element.element _ (omega (arith, size, here))
    c.loop-element.invariant.next

pub loop-element-preserved : goal.loop-element-preserved
loop-element-preserved c =
    let w = c.args.self.now in
    let i = c.loop-element.element in
    let inv = c.loop-element.invariant in
    let ens = c.in_ok-cofactors.ensures in
    record {
      limit = c.closing_step.ensures.limit ∙ inv.limit;
      at = in_work_later inv.at ens.units;
      next = subst (λ n. Awaits w c.closing_step.new.meter (tested w n))
          (let e : suc i ≡ i + 1 = omega arith in e) (ens.next (ap is_some c.in-Some.is));
      units = (let a = ens.units in let b = inv.units in omega (arith, a, b));
      over = have_more (λ (row : Vec FracPoly). AreOver w.setting.now.arity row.items) _ _ _
          c.in_ok-push.ensures.items inv.over (known _ _ _ c.in-Some.is ens.over);
      steps = steps_more _ w.place i c.push.new.self.items
          c.in-Some.cofactors inv.steps c.in_ok-push.ensures.items
          (known _ _ _ c.in-Some.is ens.step);
    }
