use Rattle.std.proofs.Common.{◌≢◌, take}
use Rattle.algebra.specs.Each.{Each}
use Rattle.residue_rows.specs.LedRows.{leds_of}
use Rattle.residue_rows.proofs.echelon.row_in.Given as goal

abbrev pub invariant-loop-row : goal.invariant-loop-row
invariant-loop-row l = Each (λ r. r.lead ≢ l.column) (leds_of (take l.row-index l.rows))
