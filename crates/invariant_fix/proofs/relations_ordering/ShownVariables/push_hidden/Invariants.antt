use Rattle.std.proofs.Common.{◌≡◌, ◌++◌, not, filter}
use Rattle.loops.specs.Turning.{places}
use Rattle.corollaries.specs.Order.{is_among}
use Rattle.invariant_fix.proofs.relations_ordering.ShownVariables.push_hidden.Given as goal

abbrev pub invariant-loop-place : goal.invariant-loop-place
invariant-loop-place l =
    l.places.items ≡ l.initial.places.items ++ filter (λ i. not (is_among l.self.shown.now i))
    (places 0 l.place-counter)
