use Rattle.std.proofs.Common.{◌≡◌, take}
use Rattle.linear.specs.Rows.{fractions_of, rows_of}
use Rattle.linear.specs.Parts.{clear_column}
use Rattle.linear.proofs.adding.cleared_of.Given as goal

abbrev pub invariant-loop-target : goal.invariant-loop-target
invariant-loop-target l = rows_of l.out.items ≡ clear_column l.column (fractions_of l.fresh.items)
    (rows_of (take l.target l.rows))
