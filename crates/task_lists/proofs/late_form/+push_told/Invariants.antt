use Rattle.std.proofs.Common.{length}
use Rattle.task_lists.proofs.late_form.+push_told.Given as goal

abbrev pub decreases-push_told : goal.decreases-push_told
decreases-push_told l = length l.polys.now
