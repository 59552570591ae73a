use Rattle.std.proofs.Common.{◌<◌, ℕ, T, ◌&&◌}
use Rattle.solvable.specs.Tables.{at}
use Rattle.solvable.proofs.cycle.start.Given as goal

abbrev pub invariant-loop-first : goal.invariant-loop-first
invariant-loop-first l = (x y : ℕ) → x < l.first → T (at l.strong.items x y && at l.walks.items y x)
    → ⊥
