use Rattle.std.proofs.Common.{length}
use Rattle.eigen_split.proofs.whole.+denominator_of.Given as goal

abbrev pub decreases-denominator_of : goal.decreases-denominator_of
decreases-denominator_of l = length l.rows.now
