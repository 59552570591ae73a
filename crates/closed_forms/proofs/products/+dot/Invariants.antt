use Rattle.std.proofs.Common.{length}
use Rattle.closed_forms.proofs.products.+dot.Given as goal

abbrev pub decreases-dot : goal.decreases-dot
decreases-dot l = length l.row.now
