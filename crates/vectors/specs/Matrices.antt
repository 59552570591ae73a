-- Square matrices of fractions, as lists of their rows, and what splitting them says.
--   rows_in n rows           the matrix as rows of width n; acted n rows y: y times it
--   denominator rows         the least common denominator
--   whole_number d a         d times a, where the denominator of a divides d
--   greatest_sum n rows      the greatest column sum of the absolute values of the matrix times its denominator
--   SplitsAt n rows          a list of values, so that the product of the matrix less each of them is zero
--   with_values n forms values    the forms with their values
--   AreForms n rows forms values     as many as rows, independent, each times the matrix its value times it and a combination of earlier ones of that value
--   AreSearched n rows forms values  what a search has found that went through all candidates: whole numbers over the denominator, at most the greatest sum
use Rattle.std.specs.Prelude.{◌≡◌, ◌≤◌, ℕ, zero as nought, suc, ◌+◌, ◌/◌, max, ℤ, pos, ◌*ℤ◌, List, [], ◌∷◌, length}
use lib.IntN.{nat_abs}
use Rattle.algebra.specs.Each.{Each}
use Rattle.algebra.specs.Gcd.{lcm}
use Rattle.algebra.specs.Fraction.{Fraction, whole, product}
use Rattle.algebra.proofs.Fractions.{ℚ_field}
use Rattle.vectors.specs.Space.{IsCombination, Independent}
use Rattle.vectors.specs.Rows.{Row, rows_of, times_rows}
use Rattle.vectors.specs.Lists.{entries, row_of, matrix_of}
use Rattle.vectors.specs.Splitting.{after, Taken, AllKilled, vectors_of}
use Rattle.vectors.specs.SplitForms.{AreSplitForms}

abbrev pub rows_in : (n : ℕ) → List (List Fraction) → List (Row ℚ_field n)
rows_in n rows = matrix_of ℚ_field n rows

abbrev pub times_matrix : (n : ℕ) → List (List Fraction) → Row ℚ_field n → Row ℚ_field n
times_matrix n rows y = times_rows ℚ_field n (rows_in n rows) y

abbrev pub row_denominator : List Fraction → ℕ
row_denominator [] = 1
row_denominator (a ∷ row) = lcm a.den (row_denominator row)

abbrev pub denominator : List (List Fraction) → ℕ
denominator [] = 1
denominator (row ∷ rows) = lcm (row_denominator row) (denominator rows)

abbrev pub whole_number : ℕ → Fraction → ℤ
whole_number d a = a.num *ℤ pos (d / a.den)

abbrev pub sum_of_column : ℕ → List (List Fraction) → ℕ → ℕ
sum_of_column d [] j = 0
sum_of_column d (row ∷ rows) j =
    nat_abs (whole_number d (entries ℚ_field row j)) + sum_of_column d rows j

abbrev pub greatest_of : ℕ → (ℕ → ℕ) → ℕ
greatest_of nought f = 0
greatest_of (suc m) f = max (f m) (greatest_of m f)

abbrev pub greatest_sum : ℕ → List (List Fraction) → ℕ
greatest_sum n rows = greatest_of n (sum_of_column (denominator rows) rows)

pub record SplitsAt (n : ℕ) (rows : List (List Fraction)) : Type 0 where
  pub values : List Fraction
  pub is_zero : (v : Row ℚ_field n)
      → after (rows_of ℚ_field n) (times_matrix n rows) values v ≡ (rows_of ℚ_field n).zero

abbrev pub with_values : (n : ℕ) → List (List Fraction) → List Fraction
    → List (Row ℚ_field n × Fraction)
with_values n [] values = []
with_values n (form ∷ forms) [] = []
with_values n (form ∷ forms) (c ∷ values) = (row_of ℚ_field n form, c) ∷ with_values n forms values

pub record AreForms (n : ℕ) (rows forms : List (List Fraction)) (values : List Fraction) : Type
    0 where
  pub count : length forms ≡ n
  pub value_count : length values ≡ n
  pub widths : Each (λ form. length form ≡ n) forms
  pub independent : Independent (rows_of ℚ_field n) (vectors_of (with_values n forms values))
  pub split : AreSplitForms ℚ_field (rows_of ℚ_field n) (times_matrix n rows) []
      (with_values n forms values)

pub record AreSearched (n : ℕ) (rows forms : List (List Fraction)) (values : List Fraction) : Type
    0 where
  pub one_each : length values ≡ length forms
  pub killed : AllKilled (rows_of ℚ_field n) (times_matrix n rows) n (with_values n forms values)
  pub independent : Independent (rows_of ℚ_field n) (vectors_of (with_values n forms values))
  pub taken : (p : ℤ) → nat_abs p ≤ greatest_sum n rows → (c : Fraction)
      → product (whole (pos (denominator rows))) c ≡ whole p
      → Taken (rows_of ℚ_field n) (times_matrix n rows) n
      (IsCombination (rows_of ℚ_field n) (vectors_of (with_values n forms values))) c
