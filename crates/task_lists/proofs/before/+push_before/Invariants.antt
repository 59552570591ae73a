use Rattle.std.proofs.Common.{length}
use Rattle.task_lists.proofs.before.+push_before.Given as goal

abbrev pub decreases-push_before : goal.decreases-push_before
decreases-push_before l = length l.passing.now
