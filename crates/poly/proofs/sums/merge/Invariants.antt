use Rattle.std.proofs.Common.{◌≤◌, ◌+◌, length}
use Rattle.std.specs.Vec.{vec_capacity}
use Rattle.poly.specs.View.{terms_of}
use Rattle.poly.proofs.Merging.{Merging}
use Rattle.poly.proofs.sums.merge.Given as goal

abbrev pub invariant-loop-x : goal.invariant-loop-x
invariant-loop-x g l =
    let k = terms_of g.K.Ring.meaning in
    Merging g.K.Ring.scalars g.met.K.Ring.ring (g.O.Order.order l.order)
    (g.met.O.Order.is_order l.order) l.arity (k (g.L.Source.items l.fn.left))
    (k (g.R.Source.items l.fn.right)) (k l.terms.items) (k (g.L.Source.items l.lefts))
    (k (g.R.Source.items l.rights))
    × (length l.terms.items + (length (g.L.Source.items l.lefts)
    + length (g.R.Source.items l.rights)) ≤ vec_capacity l.terms)

abbrev pub decreases-loop-x : goal.decreases-loop-x
decreases-loop-x g l = length (g.L.Source.items l.lefts) + length (g.R.Source.items l.rights)
