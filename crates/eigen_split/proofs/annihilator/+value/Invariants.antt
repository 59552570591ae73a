use Rattle.std.proofs.Common.{length}
use Rattle.eigen_split.proofs.annihilator.+value.Given as goal

abbrev pub decreases-value : goal.decreases-value
decreases-value l = length l.polynomial.now
