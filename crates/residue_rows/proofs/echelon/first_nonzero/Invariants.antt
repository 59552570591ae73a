use Rattle.std.proofs.Common.{◌≡◌, ◌<◌, ℕ, pos}
use Rattle.residue_rows.specs.EchelonForm.{entry}
use Rattle.residue_rows.specs.Numbers.{numbers_of}
use Rattle.residue_rows.proofs.echelon.first_nonzero.Given as goal

abbrev pub invariant-loop-column : goal.invariant-loop-column
invariant-loop-column l = (k : ℕ) → k < l.column → entry (numbers_of l.row) k ≡ pos 0
