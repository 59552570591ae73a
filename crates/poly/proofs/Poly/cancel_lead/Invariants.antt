use Rattle.std.proofs.Common.{◌≤◌, ◌+◌, ◌-◌, ◌++◌, length, take, drop}
use Rattle.std.specs.Vec.{vec_capacity}
use Rattle.poly.specs.Seen.{terms_in}
use Rattle.poly.specs.View.{terms_of}
use Rattle.poly.proofs.Raising.{Raising}
use Rattle.poly.proofs.Poly.cancel_lead.Given as goal

abbrev pub invariant-loop-term : goal.invariant-loop-term
invariant-loop-term g l =
    let k = terms_of g.K.Ring.meaning in
    Raising g.K.Ring.scalars (g.O.Order.order l.fn.self.order) l.fn.self.arity l.factor.mono
    (g.K.Ring.meaning l.opposite) (terms_in l.fn.self)
    (take 1 (terms_in l.other) ++ k (take l.term-index l.others)) (k (drop l.term-index l.others))
    (k l.front.items) (k l.back.items)
    × (length l.front.items + length l.back.items + (length l.others - l.term-index)
    ≤ vec_capacity l.front)
