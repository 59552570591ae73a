use Rattle.std.proofs.Common.{◌⊎◌, ◌<◌, ℕ, T}
use Rattle.algebra.specs.In.{In}
use Rattle.solvable.specs.Tables.{at}
use Rattle.solvable.proofs.groups.is_ready.Given as goal

abbrev pub invariant-loop-other : goal.invariant-loop-other
invariant-loop-other l = (j : ℕ) → j < l.other → T (at l.reach.items l.variable j)
    → T (at l.reach.items j l.variable) ⊎ In j l.earlier
