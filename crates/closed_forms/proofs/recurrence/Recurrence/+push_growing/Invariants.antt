use Rattle.std.proofs.Common.{length}
use Rattle.closed_forms.proofs.recurrence.Recurrence.+push_growing.Given as goal

abbrev pub decreases-push_growing : goal.decreases-push_growing
decreases-push_growing l = length l.form.now
