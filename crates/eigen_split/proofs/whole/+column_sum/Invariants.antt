use Rattle.std.proofs.Common.{length}
use Rattle.eigen_split.proofs.whole.+column_sum.Given as goal

abbrev pub decreases-column_sum : goal.decreases-column_sum
decreases-column_sum l = length l.rows.now
