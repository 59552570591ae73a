use Rattle.std.proofs.Common.{◌≡◌}
use Rattle.computation_rows.proofs.rows.Row.push_echelon.Given as goal

abbrev pub invariant-loop-row : goal.invariant-loop-row
invariant-loop-row l = l.echelon.width ≡ l.width
