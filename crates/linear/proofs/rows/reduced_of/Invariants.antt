use Rattle.std.proofs.Common.{drop}
use Rattle.linear.specs.Rows.{fractions_of, rows_of}
use Rattle.linear.proofs.Lists.{Going}
use Rattle.linear.proofs.rows.reduced_of.Given as goal

abbrev pub invariant-loop-other : goal.invariant-loop-other
invariant-loop-other l = Going (fractions_of l.row.items) (rows_of l.rows)
    (rows_of (drop l.other-index l.rows)) (fractions_of l.rest.items)
