use Rattle.std.proofs.Common.{length}
use Rattle.closed_forms.proofs.powers.+push_differences.Given as goal

abbrev pub decreases-push_differences : goal.decreases-push_differences
decreases-push_differences l = length l.up.now
