-- How much a closed form has at most.
--   most_images     a branch has at most so many polynomials, as a matrix that is split has rows
--   most_in_base    a base has at most so many numbers
--   IsLow z, AreLow zs     exponents as those of a number that fits, which is below 2^127
use Rattle.std.specs.Prelude.{ℕ, ℤ, ◌<◌, List, All, unsigned_abs}
use Rattle.algebra.specs.Limits.{word_bits}
use Rattle.eigen_split.specs.Ints.{most_rows}

abbrev pub most_images : ℕ
most_images = most_rows

abbrev pub most_in_base : ℕ
most_in_base = 500

abbrev pub IsLow : ℤ → Type 0
IsLow z = unsigned_abs z < word_bits

abbrev pub AreLow : List ℤ → Type 0
AreLow zs = All IsLow zs
