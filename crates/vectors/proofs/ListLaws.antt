-- Entries of lists: past the length they are zero, and lists of one length with the same entries are the same.
--   entries-past, same_entries     these two
--   below-entry      below F n v has v's entries below n; below-same: it is v where v is zero from n on
use Rattle.std.proofs.Common.{◌≡◌, ℕ, zero, suc, ◌<◌, ◌≤◌, List, [], ◌∷◌, length, refl, sym, ap₂, arith}
use Rattle.algebra.specs.Ring.{Field}
use Rattle.vectors.specs.Lists.{entries, below}

module _ {A : Type 0} (F : Field A) where
  pub entries-past : (xs : List A) (i : ℕ) → length xs ≤ i → entries F xs i ≡ F.zero
  entries-past [] i l = refl
  entries-past (x ∷ xs) zero l = absurd (omega arith)
  entries-past (x ∷ xs) (suc i) l = entries-past xs i (omega arith)

  pub below-entry : (n : ℕ) (v : ℕ → A) (i : ℕ) → i < n → below F n v i ≡ v i
  below-entry zero v i l = absurd (omega arith)
  below-entry (suc n) v zero l = refl
  below-entry (suc n) v (suc i) l = below-entry n (λ i. v (suc i)) i (omega arith)

  pub below-same : (n : ℕ) (v : ℕ → A) → ((i : ℕ) → n ≤ i → v i ≡ F.zero) → (i : ℕ)
      → below F n v i ≡ v i
  below-same zero v h i = sym (h i (omega arith))
  below-same (suc n) v h zero = refl
  below-same (suc n) v h (suc i) = below-same n (λ i. v (suc i)) (λ i l. h (suc i) (omega arith)) i

  pub same_entries : (xs ys : List A) → length xs ≡ length ys
      → ((i : ℕ) → entries F xs i ≡ entries F ys i) → xs ≡ ys
  same_entries [] [] l e = refl
  same_entries [] (y ∷ ys) l e = absurd (omega arith)
  same_entries (x ∷ xs) [] l e = absurd (omega arith)
  same_entries (x ∷ xs) (y ∷ ys) l e =
      ap₂ ◌∷◌ (e 0) (same_entries xs ys (omega arith) (λ i. e (suc i)))
