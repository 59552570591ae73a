use Rattle.std.proofs.Common.{length}
use Rattle.eigen_split.proofs.annihilator.+dot.Given as goal

abbrev pub decreases-dot : goal.decreases-dot
decreases-dot l = length l.left.now
