use Rattle.std.proofs.Common.{◌<◌, ℕ, T, ◌&&◌}
use Rattle.solvable.specs.Tables.{at}
use Rattle.solvable.proofs.tables.between.Given as goal

abbrev pub invariant-loop-c : goal.invariant-loop-c
invariant-loop-c l = (d : ℕ) → d < l.c → T (at l.first.items l.from d && at l.rest.items d l.to) → ⊥
