use Rattle.std.proofs.Common.{◌≡◌, ◌+◌, drop}
use Rattle.linear.specs.Rows.{rows_of}
use Rattle.linear.specs.Parts.{place}
use Rattle.linear.proofs.adding.place_of.Given as goal

abbrev pub invariant-loop-i : goal.invariant-loop-i
invariant-loop-i l = place l.column (rows_of l.rows) ≡ l.i + place l.column
    (rows_of (drop l.i l.rows))
