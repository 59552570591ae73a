use Rattle.std.proofs.Common.{length}
use Rattle.closed_forms.proofs.base.+push_some.Given as goal

abbrev pub decreases-push_some : goal.decreases-push_some
decreases-push_some l = length l.values.now
