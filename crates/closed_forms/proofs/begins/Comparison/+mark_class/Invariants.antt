use Rattle.std.proofs.Common.{length}
use Rattle.closed_forms.proofs.begins.Comparison.+mark_class.Given as goal

abbrev pub decreases-mark_class : goal.decreases-mark_class
decreases-mark_class l = length l.group.now
