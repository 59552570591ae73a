use Rattle.std.proofs.Common.{length}
use Rattle.closed_forms.proofs.lengths.+set_lengths.Given as goal

abbrev pub decreases-set_lengths : goal.decreases-set_lengths
decreases-set_lengths l = length l.group.now
