use Rattle.std.proofs.Common.{◌≡◌, All}
use Rattle.std.specs.Global.{Vec}
use Rattle.loop_model.specs.FracPoly.{FracPoly}
use Rattle.ideal_ops.specs.Calls.{AreOver}
use Rattle.poly.specs.Seen.{terms_each}
use Rattle.invariant_fix.specs.InWork.{IsInWork, Awaits, tested}
use Rattle.invariant_fix.specs.Setting.{setting_of}
use Rattle.invariant_fix.specs.Steps.{Follow}
use Rattle.invariant_fix.proofs.Passing.{StepsTo}
use Rattle.invariant_fix.proofs.branch_in_work.BranchInWork.branch_steps.Given as goal

abbrev pub invariant-loop-element : goal.invariant-loop-element
invariant-loop-element l = record {
  limit : l.meter.limit ≡ l.initial.meter.limit;
  at : IsInWork l.self l.meter;
  next : Awaits l.self l.meter (tested l.self l.element);
  units : Follow l.initial.meter l.meter;
  over : All (λ (row : Vec FracPoly). AreOver l.self.setting.now.arity row.items) l.steps.items;
  steps : StepsTo (setting_of l.self.setting.now) l.self.place (terms_each l.self.basis.now)
      l.element l.steps.items;
}
