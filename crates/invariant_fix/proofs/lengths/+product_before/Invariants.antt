use Rattle.std.proofs.Common.{length}
use Rattle.invariant_fix.proofs.lengths.+product_before.Given as goal

abbrev pub decreases-product_before : goal.decreases-product_before
decreases-product_before l = length l.exponents.now
