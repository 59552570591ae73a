use Rattle.std.proofs.Common.{◌≡◌}
use Rattle.computation_rows.proofs.dense.dense.Given as goal

abbrev pub invariant-loop-variable : goal.invariant-loop-variable
invariant-loop-variable g l = l.product.arity ≡ 3
