use Rattle.std.proofs.Common.{◌≡◌, take, map}
use Rattle.eigen_split.specs.Ints.{ints_of, times_columns}
use Rattle.eigen_split.proofs.powers.product.Given as goal

abbrev pub invariant-loop-row : goal.invariant-loop-row
invariant-loop-row l = ints_of l.out.items ≡ map (times_columns (ints_of l.columns))
    (ints_of (take l.row-index l.rows))
