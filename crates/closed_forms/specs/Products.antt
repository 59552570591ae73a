-- What is past in a product of a row and a matrix of fractions.
--   IsPastDot xs ys         a product of numbers of the two rows, or its sum with those behind it, does not fit
--   IsPastRow n row rows    that is so of the row with a column of the matrix, of width n
use Rattle.std.specs.Prelude.{◌⊎◌, ◌<◌, ℕ, List, [], ◌∷◌}
use Rattle.algebra.specs.Fraction.{Fraction, ℚ, fraction_size}
use Rattle.algebra.specs.Size.{IsPast}
use Rattle.polynomials.specs.Terms.{sum_of_products}
use Rattle.solvable_maps.specs.Inverse.{numbers_at}
use Rattle.frac128.specs.Sums.{SumIsPast}

abbrev pub IsPastDot : List Fraction → List Fraction → Type 0
IsPastDot [] ys = ⊥
IsPastDot (x ∷ xs) [] = ⊥
IsPastDot (x ∷ xs) (y ∷ ys) =
    IsPast (fraction_size (ℚ.mul x y))
    ⊎ (SumIsPast (ℚ.mul x y) (sum_of_products ℚ xs ys) ⊎ IsPastDot xs ys)

pub record IsPastRow (n : ℕ) (row : List Fraction) (rows : List (List Fraction)) : Type 0 where
  pub place : ℕ
  pub within : place < n
  pub past : IsPastDot row (numbers_at place rows)
