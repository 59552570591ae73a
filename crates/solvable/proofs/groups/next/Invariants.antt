use Rattle.std.proofs.Common.{◌<◌, ℕ, length}
use Rattle.solvable.specs.Tables.{at}
use Rattle.solvable.specs.Ready.{IsReady}
use Rattle.solvable.proofs.groups.next.Given as goal

abbrev pub invariant-loop-variable : goal.invariant-loop-variable
invariant-loop-variable l = (j : ℕ) → j < l.variable
    → IsReady (at l.reach.items) (length l.reach.items) l.earlier j → ⊥
