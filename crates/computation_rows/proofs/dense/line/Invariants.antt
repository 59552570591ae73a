use Rattle.std.proofs.Common.{◌≡◌}
use Rattle.computation_rows.proofs.dense.line.Given as goal

abbrev pub invariant-loop-place : goal.invariant-loop-place
invariant-loop-place g l = (l.x.arity ≡ 3) × (l.sum.arity ≡ 3)
