use Rattle.std.proofs.Common.{◌≡◌, ◌≤◌, ◌-◌, true, false, length, take, drop}
use Rattle.std.specs.List.{All}
use Rattle.std.specs.Ordering.{is_lt}
use Rattle.complete.specs.Pairs.{keys}
use Rattle.complete.proofs.pairs.place_of.Given as goal

abbrev pub invariant-loop-low : goal.invariant-loop-low
invariant-loop-low g l =
    let O = g.O.Order.order l.order in
    (l.low ≤ l.high) × (l.high ≤ length l.list)
    × All (λ b. is_lt (keys O l.mixed l.pair b) ≡ false) (take l.low l.list)
    × All (λ b. is_lt (keys O l.mixed l.pair b) ≡ true) (drop l.high l.list)

abbrev pub decreases-loop-low : goal.decreases-loop-low
decreases-loop-low g l = l.high - l.low
