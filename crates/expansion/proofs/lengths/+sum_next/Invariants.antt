use Rattle.std.proofs.Common.{length}
use Rattle.expansion.proofs.lengths.+sum_next.Given as goal

abbrev pub decreases-sum_next : goal.decreases-sum_next
decreases-sum_next l = length l.terms.now
