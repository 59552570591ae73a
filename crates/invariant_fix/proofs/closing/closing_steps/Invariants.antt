use Rattle.std.proofs.Common.{◌≡◌, All}
use Rattle.std.specs.Global.{Vec}
use Rattle.loop_model.specs.FracPoly.{FracPoly}
use Rattle.ideal_ops.specs.Calls.{AreOver}
use Rattle.poly.specs.Seen.{terms_each}
use Rattle.invariant_fix.specs.Setting.{setting_of}
use Rattle.invariant_fix.specs.Steps.{Knows, Follow}
use Rattle.invariant_fix.proofs.Passing.{RoundsTo, ComesNext}
use Rattle.invariant_fix.proofs.closing.closing_steps.Given as goal

abbrev pub invariant-loop-place : goal.invariant-loop-place
invariant-loop-place l = record {
  limit : l.meter.limit ≡ l.initial.meter.limit;
  known : Knows l.setting l.meter l.basis;
  next : ComesNext (setting_of l.setting) l.round (terms_each l.basis) l.place l.meter.entries;
  units : Follow l.initial.meter l.meter;
  over : All (λ (rows : Vec (Vec FracPoly)).
      All (λ (row : Vec FracPoly). AreOver l.setting.arity row.items) rows.items) l.steps.items;
  steps : RoundsTo (setting_of l.setting) (terms_each l.basis) l.place l.steps.items;
}
