use Rattle.std.proofs.Common.{◌≡◌, ◌-◌, ◌++◌}
use Rattle.linear.specs.Rows.{fractions_of, rows_of}
use Rattle.linear.specs.Parts.{kernel_row}
use Rattle.linear.proofs.kernel.vector_of.Given as goal

abbrev pub invariant-loop-i : goal.invariant-loop-i
invariant-loop-i l = kernel_row (rows_of l.rows) l.column 0 l.width ≡ fractions_of l.vector.items
    ++ kernel_row (rows_of l.rows) l.column l.i (l.width - l.i)
