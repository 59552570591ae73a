use Rattle.std.proofs.Common.{length}
use Rattle.solvable.proofs.Walks.{Searching}
use Rattle.solvable.proofs.cycle.least_cycle.Given as goal

abbrev pub invariant-loop-steps : goal.invariant-loop-steps
invariant-loop-steps l = Searching l.used.items l.strong.items (length l.used.items) l.steps
    l.walks.items
