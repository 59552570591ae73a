-- Rows and matrices that are lists of numbers.
--   entries F xs             the sequence of a list's entries, zero past its end; tables: of each of a list
--   below F n v              v with zeros from n on
--   row_of F n xs            a list as a row of width n; matrix_of: each of a list
use Rattle.std.specs.Prelude.{◌≡◌, ℕ, zero as nought, suc, ◌≤◌, List, [], ◌∷◌}
use Rattle.std.proofs.Common.{refl, arith}
use Rattle.algebra.specs.Ring.{Field}
use Rattle.vectors.specs.Rows.{Row}

module _ {A : Type 0} (F : Field A) where
  -- zero past the end
  abbrev pub entries : List A → ℕ → A
  entries [] i = F.zero
  entries (x ∷ xs) nought = x
  entries (x ∷ xs) (suc i) = entries xs i

  abbrev pub tables : List (List A) → List (ℕ → A)
  tables [] = []
  tables (r ∷ rows) = entries r ∷ tables rows

  -- the first n entries
  abbrev pub below : ℕ → (ℕ → A) → ℕ → A
  below nought v i = F.zero
  below (suc n) v nought = v 0
  below (suc n) v (suc i) = below n (λ i. v (suc i)) i

  pub below-past : (n : ℕ) (v : ℕ → A) (i : ℕ) → n ≤ i → below n v i ≡ F.zero
  below-past nought v i l = refl
  below-past (suc n) v nought l = absurd (omega arith)
  below-past (suc n) v (suc i) l = below-past n (λ i. v (suc i)) i (omega arith)

  abbrev pub row_of : (n : ℕ) → List A → Row F n
  row_of n xs = (below n (entries xs), below-past n (entries xs))

  abbrev pub matrix_of : (n : ℕ) → List (List A) → List (Row F n)
  matrix_of n [] = []
  matrix_of n (r ∷ rows) = row_of n r ∷ matrix_of n rows
