use Rattle.std.proofs.Common.{◌≡◌, ◌<◌, ◌^◌}
use Rattle.vectors.specs.Matrices.{greatest_of, sum_of_column}
use Rattle.linear.specs.Rows.{rows_of}
use Rattle.eigen_split.proofs.whole.greatest_sum.Given as goal

abbrev pub invariant-loop-column : goal.invariant-loop-column
invariant-loop-column l = record {
  is : l.greatest ≡ greatest_of l.column (sum_of_column l.denominator (rows_of l.rows.items));
  small : l.greatest < 2 ^ 127;
}
