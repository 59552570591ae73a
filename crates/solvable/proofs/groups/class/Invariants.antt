use Rattle.solvable.specs.Tables.{at}
use Rattle.solvable.specs.Ready.{Mutual}
use Rattle.solvable.proofs.Classing.{Collected}
use Rattle.solvable.proofs.groups.class.Given as goal

abbrev pub invariant-loop-other : goal.invariant-loop-other
invariant-loop-other l = Collected (Mutual (at l.reach.items) l.variable) l.other l.group.items
