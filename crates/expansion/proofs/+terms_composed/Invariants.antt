use Rattle.std.proofs.Common.{length}
use Rattle.expansion.proofs.+terms_composed.Given as goal

abbrev pub decreases-terms_composed : goal.decreases-terms_composed
decreases-terms_composed l = length l.terms.now
