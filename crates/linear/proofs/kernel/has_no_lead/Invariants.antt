use Rattle.std.proofs.Common.{◌≡◌, drop}
use Rattle.linear.specs.Rows.{rows_of}
use Rattle.linear.specs.Parts.{is_free}
use Rattle.linear.proofs.kernel.has_no_lead.Given as goal

abbrev pub invariant-loop-row : goal.invariant-loop-row
invariant-loop-row l = is_free l.column (rows_of l.rows) ≡ is_free l.column
    (rows_of (drop l.row-index l.rows))
