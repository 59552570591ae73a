use Rattle.std.proofs.Common.{◌≡◌, take}
use Rattle.eigen_split.specs.Ints.{ints, ints_of, times_columns}
use Rattle.eigen_split.proofs.powers.times.Given as goal

abbrev pub invariant-loop-column : goal.invariant-loop-column
invariant-loop-column l = ints l.out.items ≡ times_columns (ints_of (take l.column-index l.columns))
    (ints l.row)
