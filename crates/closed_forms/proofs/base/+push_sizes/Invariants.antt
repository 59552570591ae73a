use Rattle.std.proofs.Common.{length}
use Rattle.closed_forms.proofs.base.+push_sizes.Given as goal

abbrev pub decreases-push_sizes : goal.decreases-push_sizes
decreases-push_sizes l = length l.values.now
