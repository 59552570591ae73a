use Rattle.std.proofs.Common.{length}
use Rattle.eigen_split.proofs.annihilator.+trace.Given as goal

abbrev pub decreases-trace : goal.decreases-trace
decreases-trace l = length l.rows.now
