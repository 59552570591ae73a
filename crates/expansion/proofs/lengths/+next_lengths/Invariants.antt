use Rattle.std.proofs.Common.{length}
use Rattle.expansion.proofs.lengths.+next_lengths.Given as goal

abbrev pub decreases-next_lengths : goal.decreases-next_lengths
decreases-next_lengths l = length l.list.now
