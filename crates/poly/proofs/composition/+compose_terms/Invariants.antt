use Rattle.std.proofs.Common.{length}
use Rattle.poly.proofs.composition.«+compose_terms».Given as goal

abbrev pub decreases-compose_terms : goal.decreases-compose_terms
decreases-compose_terms g l = length l.terms.now
