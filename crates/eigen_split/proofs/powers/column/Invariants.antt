use Rattle.std.proofs.Common.{◌≡◌, take}
use Rattle.vectors.specs.Causes.{column}
use Rattle.linear.specs.Rows.{fractions_of}
use Rattle.eigen_split.specs.Ints.{ints_of, whole_rows}
use Rattle.eigen_split.proofs.powers.column.Given as goal

abbrev pub invariant-loop-row : goal.invariant-loop-row
invariant-loop-row l = fractions_of l.out.items
    ≡ column l.j (whole_rows (ints_of (take l.row-index l.rows)))
