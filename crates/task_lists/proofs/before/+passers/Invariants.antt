use Rattle.std.proofs.Common.{length}
use Rattle.task_lists.proofs.before.+passers.Given as goal

abbrev pub decreases-passers : goal.decreases-passers
decreases-passers l = length l.passing.now
