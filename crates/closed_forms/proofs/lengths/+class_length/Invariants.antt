use Rattle.std.proofs.Common.{length}
use Rattle.closed_forms.proofs.lengths.+class_length.Given as goal

abbrev pub decreases-class_length : goal.decreases-class_length
decreases-class_length l = length l.group.now
