use Rattle.std.proofs.Common.{length}
use Rattle.solvable.specs.Tables.{at}
use Rattle.solvable.specs.Ready.{AreReached}
use Rattle.solvable.proofs.groups.reachable.Given as goal

abbrev pub invariant-loop-between : goal.invariant-loop-between
invariant-loop-between l = AreReached (at l.fn.used.items) (length l.fn.used.items) l.between
    l.reach.items
