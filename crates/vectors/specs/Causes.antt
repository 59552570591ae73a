-- Why a matrix of fractions is not split.
--   limit n                  the greatest column sum that is allowed for a class of n variables
--   IsTooWide n rows         the denominator, an entry or a column sum of the matrix times it is above 2^127 - 1
--   power n rows k           the power k + 1 of a matrix; shifted d p rows: d times the matrix, less p on its diagonal
--   IsPastColumn n rows p k row     adding the column `row`, from 1, of the power k + 1 is past
--   IsPastVector n found vector     adding a kernel vector to the forms of the candidate so far is past
use Rattle.std.specs.Prelude.{◌≡◌, ℕ, zero, suc, ◌<◌, ◌≤◌, ℤ, pos, cond, leb, List, [], ◌∷◌, map, length}
use lib.IntN.{nat_abs}
use Rattle.algebra.specs.Fraction.{Fraction, ℚ, whole}
use Rattle.algebra.specs.Limits.{number_limit}
use Rattle.vectors.specs.Adding.{IsEchelonOf, IsPastTarget, entry}
use Rattle.vectors.specs.Matrices.{denominator, whole_number, sum_of_column}

abbrev pub limit : ℕ → ℕ
limit n = cond (leb n 8) 4096 512

abbrev pub row_at : List (List Fraction) → ℕ → List Fraction
row_at [] i = []
row_at (row ∷ rows) zero = row
row_at (row ∷ rows) (suc i) = row_at rows i

pub data IsTooWide (n : ℕ) (rows : List (List Fraction)) : Type 0 where
  denominator_past : number_limit ≤ denominator rows → IsTooWide n rows
  entry_past : (i j : ℕ) → i < n → j < n
      → number_limit ≤ nat_abs (whole_number (denominator rows) (entry (row_at rows i) j))
      → IsTooWide n rows
  sum_past : (j : ℕ) → j < n → number_limit ≤ sum_of_column (denominator rows) rows j
      → IsTooWide n rows

abbrev pub dot : List Fraction → List Fraction → Fraction
dot [] ys = ℚ.zero
dot (x ∷ xs) [] = ℚ.zero
dot (x ∷ xs) (y ∷ ys) = ℚ.add (ℚ.mul x y) (dot xs ys)

abbrev pub column : ℕ → List (List Fraction) → List Fraction
column j rows = map (λ row. entry row j) rows

abbrev pub numbers_to : ℕ → List ℕ
numbers_to zero = []
numbers_to (suc n) = 0 ∷ map (λ i. suc i) (numbers_to n)

abbrev pub on_diagonal : ℤ → ℕ → ℕ → Fraction
on_diagonal p zero zero = whole p
on_diagonal p zero (suc j) = ℚ.zero
on_diagonal p (suc i) zero = ℚ.zero
on_diagonal p (suc i) (suc j) = on_diagonal p i j

abbrev pub matrix_less : ℕ → ℤ → List (List Fraction) → List (List Fraction)
matrix_less d p rows =
    map
    (λ i. map (λ j. ℚ.add (ℚ.mul (whole (pos d)) (entry (row_at rows i) j))
    (ℚ.neg (on_diagonal p i j))) (numbers_to (length rows)))
    (numbers_to (length rows))

abbrev pub product : ℕ → List (List Fraction) → List (List Fraction) → List (List Fraction)
product n xs ys = map (λ row. map (λ j. dot row (column j ys)) (numbers_to n)) xs

abbrev pub power : ℕ → List (List Fraction) → ℕ → List (List Fraction)
power n rows zero = rows
power n rows (suc k) = product n (power n rows k) rows

pub record IsPastColumn (n : ℕ) (rows : List (List Fraction)) (p : ℤ) (k row : ℕ) : Type 0 where
  pub before : ℕ
  pub number : row ≡ suc before
  pub target : ℕ
  pub echelon : List (List Fraction)
  pub is : IsEchelonOf n
      (map (λ j. column j (power n (matrix_less (denominator rows) p rows) k))
      (numbers_to before)) echelon
  pub past : IsPastTarget echelon
      (column before (power n (matrix_less (denominator rows) p rows) k)) target

pub record IsPastVector (n : ℕ) (found : List (List Fraction)) (vector : List Fraction) : Type
    0 where
  pub target : ℕ
  pub echelon : List (List Fraction)
  pub is : IsEchelonOf n found echelon
  pub past : IsPastTarget echelon vector target
