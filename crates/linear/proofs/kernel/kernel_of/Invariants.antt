use Rattle.std.proofs.Common.{◌≡◌, ◌-◌, ◌++◌}
use Rattle.linear.specs.Rows.{rows_of}
use Rattle.linear.specs.Parts.{kernel_rows}
use Rattle.linear.proofs.kernel.kernel_of.Given as goal

abbrev pub invariant-loop-column : goal.invariant-loop-column
invariant-loop-column l = kernel_rows (rows_of l.rows) l.width 0 l.width ≡ rows_of l.vectors.items
    ++ kernel_rows (rows_of l.rows) l.width l.column (l.width - l.column)
