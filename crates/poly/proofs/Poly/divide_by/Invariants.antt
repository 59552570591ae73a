use Rattle.std.proofs.Common.{◌≤◌, ◌+◌, ◌-◌, length, replicate, take}
use Rattle.std.specs.Vec.{vec_capacity}
use Rattle.poly.specs.View.{terms_of}
use Rattle.poly.proofs.Shifting.{Shifting}
use Rattle.poly.proofs.Poly.divide_by.Given as goal

abbrev pub invariant-loop-term : goal.invariant-loop-term
invariant-loop-term g l =
    let k = g.K.Ring.meaning in
    let m = l.self.arity in
    Shifting g.K.Ring.scalars g.met.K.Ring.ring (g.O.Order.order l.self.order)
    (g.met.O.Order.is_order l.self.order) m (replicate m 0) (g.K.Ring.scalars.inverse (k l.by))
    (terms_of k (take l.term-index l.term-items)) (terms_of k l.out.items)
    × (length l.out.items + (length l.term-items - l.term-index) ≤ vec_capacity l.out)
