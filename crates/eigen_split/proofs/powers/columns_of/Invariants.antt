use Rattle.std.proofs.Common.{◌≡◌}
use Rattle.eigen_split.specs.Ints.{ints_of, int_columns}
use Rattle.eigen_split.proofs.powers.columns_of.Given as goal

abbrev pub invariant-loop-j : goal.invariant-loop-j
invariant-loop-j l = ints_of l.out.items ≡ int_columns l.j (ints_of l.rows.items)
