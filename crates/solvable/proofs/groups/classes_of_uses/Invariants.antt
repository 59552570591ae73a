use Rattle.std.proofs.Common.{length}
use Rattle.solvable.proofs.Classing.{Grouping, lists, left_of}
use Rattle.solvable.proofs.groups.classes_of_uses.Given as goal

abbrev pub invariant-loop-first : goal.invariant-loop-first
invariant-loop-first l = Grouping l.fn.used.items l.reach.items (length l.fn.used.items)
    l.earlier.items (lists l.groups.items)

abbrev pub decreases-loop-first : goal.decreases-loop-first
decreases-loop-first l = left_of (length l.fn.used.items) l.earlier.items
