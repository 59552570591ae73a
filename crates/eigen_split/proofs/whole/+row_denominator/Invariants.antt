use Rattle.std.proofs.Common.{length}
use Rattle.eigen_split.proofs.whole.+row_denominator.Given as goal

abbrev pub decreases-row_denominator : goal.decreases-row_denominator
decreases-row_denominator l = length l.row.now
