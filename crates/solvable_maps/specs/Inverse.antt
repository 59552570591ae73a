-- Products of rows and matrices, the inverse of a matrix of forms, and the rows that it comes from.
--   numbers_at j rows      the numbers in a column
--   IsProduct n row rows out     out is the row times the matrix, of width n
--   unit_list n i          the i-th row of the identity, of width n
--   beside n i forms       each form, and behind it a row of the identity, from the i-th on
--   IsInverse n forms back     the product of back with the forms is the identity
use Rattle.std.specs.Prelude.{◌≡◌, ◌<◌, ℕ, zero, suc, List, [], ◌∷◌, ◌++◌, map, length, replicate}
use Rattle.algebra.specs.Each.{Each}
use Rattle.algebra.specs.Fraction.{Fraction, ℚ}
use Rattle.algebra.proofs.Fractions.{ℚ_field}
use Rattle.polynomials.specs.Terms.{sum_of_products}
use Rattle.vectors.specs.Causes.{row_at}
use Rattle.vectors.specs.Lists.{entries}

abbrev pub numbers_at : ℕ → List (List Fraction) → List Fraction
numbers_at j rows = map (λ row. entries ℚ_field row j) rows

pub record IsProduct (n : ℕ) (row : List Fraction) (rows : List (List Fraction))
    (out : List Fraction) : Type 0 where
  pub size : length out ≡ n
  pub each : (j : ℕ) → j < n → entries ℚ_field out j ≡ sum_of_products ℚ row (numbers_at j rows)

abbrev pub unit_list : ℕ → ℕ → List Fraction
unit_list zero i = []
unit_list (suc n) zero = ℚ.one ∷ replicate n ℚ.zero
unit_list (suc n) (suc i) = ℚ.zero ∷ unit_list n i

abbrev pub beside : ℕ → ℕ → List (List Fraction) → List (List Fraction)
beside n i [] = []
beside n i (form ∷ forms) = (form ++ unit_list n i) ∷ beside n (suc i) forms

pub record IsInverse (n : ℕ) (forms back : List (List Fraction)) : Type 0 where
  pub size : length back ≡ n
  pub widths : Each (λ row. length row ≡ n) back
  pub is : (a i : ℕ) → a < n → i < n
      → sum_of_products ℚ (row_at back a) (numbers_at i forms)
      ≡ entries ℚ_field (unit_list n a) i
