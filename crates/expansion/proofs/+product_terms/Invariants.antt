use Rattle.std.proofs.Common.{length}
use Rattle.expansion.proofs.+product_terms.Given as goal

abbrev pub decreases-product_terms : goal.decreases-product_terms
decreases-product_terms l = length l.exponents.now
