use Rattle.std.proofs.Common.{◌≡◌, drop}
use Rattle.linear.specs.Rows.{rows_of}
use Rattle.linear.specs.Parts.{kernel_entry}
use Rattle.linear.proofs.kernel.entry_of.Given as goal

abbrev pub invariant-loop-row : goal.invariant-loop-row
invariant-loop-row l = kernel_entry (rows_of l.rows) l.column l.i ≡ kernel_entry
    (rows_of (drop l.row-index l.rows)) l.column l.i
