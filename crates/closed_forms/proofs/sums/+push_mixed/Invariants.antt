use Rattle.std.proofs.Common.{length}
use Rattle.closed_forms.proofs.sums.+push_mixed.Given as goal

abbrev pub decreases-push_mixed : goal.decreases-push_mixed
decreases-push_mixed l = length l.numbers.now
