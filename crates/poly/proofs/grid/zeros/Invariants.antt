use Rattle.std.proofs.Common.{◌≡◌, ◌≤◌, ◌-◌, length}
use Rattle.std.specs.List.{All}
use Rattle.poly.proofs.grid.zeros.Given as goal

abbrev pub invariant-loop-zeros : goal.invariant-loop-zeros
invariant-loop-zeros g l = record {
  zero : All (λ a. g.K.Ring.meaning a ≡ g.K.Ring.scalars.zero) l.zeros.items;
  count : length l.zeros.items ≤ l.places;
}

abbrev pub decreases-loop-zeros : goal.decreases-loop-zeros
decreases-loop-zeros g l = l.places - length l.zeros.items
