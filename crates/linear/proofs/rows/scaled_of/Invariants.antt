use Rattle.std.proofs.Common.{◌≡◌, take}
use Rattle.frac128.specs.FracMeaning.{fraction_of}
use Rattle.vectors.specs.Adding.{scale_row}
use Rattle.linear.specs.Rows.{fractions_of}
use Rattle.linear.proofs.rows.scaled_of.Given as goal

abbrev pub invariant-loop-number : goal.invariant-loop-number
invariant-loop-number l = fractions_of l.out.items ≡ scale_row (fraction_of l.by)
    (fractions_of (take l.number-index l.row))
