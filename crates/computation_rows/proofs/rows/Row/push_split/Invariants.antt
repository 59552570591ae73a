use Rattle.std.proofs.Common.{◌≡◌, All, length}
use Rattle.computation_rows.proofs.rows.Row.push_split.Given as goal

abbrev pub invariant-loop-row : goal.invariant-loop-row
invariant-loop-row l = All (λ row. length row.items ≡ l.size) l.rows.items
