-- The least multiple of a matrix with whole numbers, as the code has it.
--   rows_in m, size_of m     the rows of the matrix, and how many there are
use Rattle.std.specs.Prelude.{ℕ, List, length}
use Rattle.algebra.specs.Fraction.{Fraction}
use Rattle.linear.specs.Rows.{rows_of}
use Rattle.eigen_split.specs.declared.multiple.WholeMultiple.{WholeMultiple}

abbrev pub rows_in : WholeMultiple → List (List Fraction)
rows_in m = rows_of m.matrix.now.items

abbrev pub size_of : WholeMultiple → ℕ
size_of m = length m.matrix.now.items
