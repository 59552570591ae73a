use Rattle.std.proofs.Common.{length}
use Rattle.expansion.proofs.lengths.+product_length.Given as goal

abbrev pub decreases-product_length : goal.decreases-product_length
decreases-product_length l = length l.exponents.now
