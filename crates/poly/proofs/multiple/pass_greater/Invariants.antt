use Rattle.std.proofs.Common.{◌≡◌, ◌++◌, length}
use Rattle.std.specs.Vec.{vec_capacity}
use Rattle.std.specs.List.{All}
use Rattle.poly.specs.Raised.{Exceeds}
use Rattle.poly.specs.View.{terms_of}
use Rattle.poly.proofs.multiple.pass_greater.Given as goal

abbrev pub invariant-loop-front : goal.invariant-loop-front
invariant-loop-front g l =
    let k = terms_of g.K.Ring.meaning in
    let O = g.O.Order.order l.order in
    (l.front.items ++ l.back.items ≡ l.initial.front.items ++ l.initial.back.items)
    × All (λ t. length t.mono ≡ length l.mono) l.back.items
    × (vec_capacity l.front ≡ vec_capacity l.initial.front)
    × (Exceeds O l.mono (k l.initial.front.items) → Exceeds O l.mono (k l.front.items))

abbrev pub decreases-loop-front : goal.decreases-loop-front
decreases-loop-front g l = length l.back.items
