use Rattle.std.proofs.Common.{◌≡◌, take}
use Rattle.eigen_split.specs.Ints.{ints, ints_of, int_column}
use Rattle.eigen_split.proofs.powers.int_column.Given as goal

abbrev pub invariant-loop-row : goal.invariant-loop-row
invariant-loop-row l = ints l.out.items ≡ int_column l.j (ints_of (take l.row-index l.rows))
