use Rattle.std.proofs.Common.{◌≡◌, ◌++◌, filter}
use Rattle.loops.specs.Turning.{places}
use Rattle.corollaries.specs.Order.{is_among}
use Rattle.invariant_fix.proofs.relations_ordering.ShownVariables.push_visible.Given as goal

abbrev pub invariant-loop-place : goal.invariant-loop-place
invariant-loop-place l =
    l.places.items ≡ l.initial.places.items ++ filter (is_among l.self.shown.now)
    (places 0 l.place-counter)
