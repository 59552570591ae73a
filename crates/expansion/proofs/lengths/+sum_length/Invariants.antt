use Rattle.std.proofs.Common.{length}
use Rattle.expansion.proofs.lengths.+sum_length.Given as goal

abbrev pub decreases-sum_length : goal.decreases-sum_length
decreases-sum_length l = length l.terms.now
