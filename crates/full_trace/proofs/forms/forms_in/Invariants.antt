use Rattle.std.proofs.Common.{◌≡◌, ℕ, map}
use Rattle.std.specs.List.{All}
use Rattle.task_lists.specs.View.{form_in}
use Rattle.invariant_fix.specs.Setting.{FitsBranch}
use Rattle.full_trace.specs.Tasks.{written_of}
use Rattle.task_lists.specs.Images.{IsFormOver}
use Rattle.full_trace.proofs.forms.forms_in.Given as goal

abbrev pub invariant-loop-branch : goal.invariant-loop-branch
invariant-loop-branch l = record {
  forms : map form_in l.forms.items ≡ map (λ c. written_of c.form) l.yielded;
  over : (m : ℕ) → All (FitsBranch m) l.yielded → All (IsFormOver m) l.forms.items;
}
