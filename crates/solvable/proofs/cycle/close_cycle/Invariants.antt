use Rattle.std.proofs.Common.{◌≡◌, ◌<◌, ◌+◌, ℕ, length}
use Rattle.solvable.specs.Tables.{at}
use Rattle.solvable.proofs.Walks.{Going}
use Rattle.solvable.proofs.cycle.close_cycle.Given as goal

abbrev pub invariant-loop-left : goal.invariant-loop-left
invariant-loop-left l = record {
  below : l.left < length l.walks.items;
  from : l.from < length l.used.items;
  going : (k : ℕ) → k + 1 ≡ length l.walks.items → Going (at l.used.items) k l.first l.second l.left
      l.from l.cycle.items;
}

abbrev pub decreases-loop-left : goal.decreases-loop-left
decreases-loop-left l = l.left
