use Rattle.std.proofs.Common.{◌≡◌, ◌+◌, drop}
use Rattle.vectors.specs.Adding.{lead}
use Rattle.linear.specs.Rows.{fractions_of}
use Rattle.linear.proofs.rows.lead_of.Given as goal

abbrev pub invariant-loop-i : goal.invariant-loop-i
invariant-loop-i l = lead (fractions_of l.row.items) ≡ l.i
    + lead (fractions_of (drop l.i l.row.items))
