use Rattle.std.proofs.Common.{length}
use Rattle.task_lists.proofs.graph.+push_differences.Given as goal

abbrev pub decreases-push_differences : goal.decreases-push_differences
decreases-push_differences l = length l.forms.now
