use Rattle.poly.proofs.Distinct.{distinct_from_pairs}
use Rattle.poly.proofs.Poly.from_distinct.Goals as goal

pub sum_of_distinct-requires-clause-distinct : goal.sum_of_distinct-requires-clause-distinct
sum_of_distinct-requires-clause-distinct g c = distinct_from_pairs _ _ _ c.requires.distinct
