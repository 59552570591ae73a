-- Matrices of whole numbers, as lists of their rows, and the fractions that are eigenvalues of theirs.
--   over_fractions rows      the same rows as fractions
--   IsEigenvalue rows c      a row as wide as there are rows, with an entry that isn't zero, times the matrix is c times it
--   IsWholeWithin b c        c is a whole number of an absolute value of at most b
--   greatest_column_sum rows the greatest column sum of the absolute values
use Rattle.std.specs.Prelude.{◌≡◌, ◌≢◌, ◌≤◌, ℕ, ℤ, List, [], ◌∷◌, length}
use lib.IntN.{nat_abs}
use Rattle.algebra.specs.Fraction.{Fraction, ℚ, whole, product}
use Rattle.algebra.proofs.Fractions.{ℚ_ring}
use Rattle.vectors.specs.Sequences.{times_matrix, column_sum}
use Rattle.vectors.specs.Matrices.{greatest_of}

abbrev pub over_fractions : List (ℕ → ℤ) → List (ℕ → Fraction)
over_fractions [] = []
over_fractions (r ∷ rows) = (λ j. whole (r j)) ∷ over_fractions rows

pub record IsEigenvalue (rows : List (ℕ → ℤ)) (c : Fraction) : Type 0 where
  pub row : ℕ → Fraction
  pub past : (j : ℕ) → length rows ≤ j → row j ≡ ℚ.zero
  pub place : ℕ
  pub some : row place ≢ ℚ.zero
  pub is : (j : ℕ) → times_matrix ℚ_ring row (over_fractions rows) j ≡ product c (row j)

pub record IsWholeWithin (b : ℕ) (c : Fraction) : Type 0 where
  pub number : ℤ
  pub is : c ≡ whole number
  pub within : nat_abs number ≤ b

abbrev pub greatest_column_sum : List (ℕ → ℤ) → ℕ
greatest_column_sum rows = greatest_of (length rows) (column_sum rows)
