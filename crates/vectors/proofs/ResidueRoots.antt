-- A matrix's polynomial at its eigenvalues, and eigenvectors of whole numbers by what they leave.
--   total-on_diagonal      y times c on the diagonal
--   IsNext n N c M M'      M' is M N + c; IsEigenvector n y M s: y times M is s times y
--   eigenvector_next             where y times M is s times y, y times (M B + c) is s p + c times y, for y times B = p times y
--   eigenvector_none, eigenvector_zero   so does the matrix of zeros with s = 0, and with no other s
--   whole_at rows i j      an entry of a matrix of whole numbers; total-of_int: a row times the matrix, in the field
--   KillsNone n rows       the matrix kills no vector but zero
--   leaves_none            where a matrix of whole numbers kills no vector of residues, it kills none of whole numbers
use Rattle.std.proofs.Common.{◌≡◌, ◌≢◌, inl, inr, ℕ, zero, suc, ◌*◌, ◌<◌, ◌≤◌, ℤ, pos, ◌*ℤ◌, cond, eqb, List, [], ◌∷◌, length, get_or, refl, sym, ap, ap₂, subst, ◌∙◌, arith}
use mathlib.Core.Path.{fun_ext}
use Prim.Native.Nat.{◌∣◌}
use native.Mathlib.Nat as N
use lib.IntN.{nat_abs}
use Rattle.std.proofs.lemmas.Bool.{cases_lt, ne_eqb}
use Rattle.std.proofs.lemmas.Int.{unsigned_abs-mul}
use Rattle.algebra.specs.Ring.{CommRing, Field}
use Rattle.algebra.proofs.Basics.{eqb_same}
use Rattle.algebra.proofs.FieldLaws as FL
use Rattle.algebra.proofs.RingLaws as L
use Rattle.algebra.proofs.IntRing.{ℤ_ring}
use Rattle.algebra.proofs.OfInt.{of_int, of_int-add, of_int-mul}
use Rattle.algebra.proofs.RingSolver.{ring_rules, ring}
use Rattle.algebra.specs.Ratio.{exact}
use Rattle.algebra.proofs.RatioLaws.{exact_whole, cancel}
use Rattle.vectors.specs.Echelon.{total}
use Rattle.vectors.specs.Sequences.{sequences}
use Rattle.vectors.proofs.Combinations as C
use Rattle.vectors.proofs.EchelonKernel as EK
use Rattle.vectors.proofs.WholeEigen.{times_int, nat_abs-zero}

module _ {A : Type 0} (F : Field A) where
  abbrev R : CommRing A
  R = F.ring

  pub total-on_diagonal : (n : ℕ) (c : A) (y : ℕ → A) (j : ℕ) → j < n
      → total F n (λ i. R.mul (cond (eqb i j) c R.zero) (y i)) ≡ R.mul c (y j)
  total-on_diagonal n c y j l =
      EK.total-single F n (λ i. R.mul (cond (eqb i j) c R.zero) (y i)) j l (λ i k ne.
      ap (λ b. R.mul (cond b c R.zero) (y i)) (ne_eqb i j ne) ∙ L.zero-mul R (y i))
      ∙ ap (λ b. R.mul (cond b c R.zero) (y j)) (eqb_same j)

  turned : (m x y : A) → R.mul y (R.mul m x) ≡ R.mul x (R.mul m y)
  turned m x y = ring R (m ∷ x ∷ y ∷ []) (search ring_rules depth 40) refl

  -- the rows after M
  abbrev pub IsNext : ℕ → (ℕ → ℕ → A) → A → (ℕ → ℕ → A) → (ℕ → ℕ → A) → Type 0
  IsNext n N c M M' = (i j : ℕ) → i < n → j < n
      → M' i j ≡ R.add (total F n (λ l. R.mul (M i l) (N l j))) (cond (eqb i j) c R.zero)

  module _ (n : ℕ) (y : ℕ → A) where
    -- y times M is s times y
    abbrev pub IsEigenvector : (ℕ → ℕ → A) → A → Type 0
    IsEigenvector M s = (j : ℕ) → j < n → total F n (λ i. R.mul (M i j) (y i)) ≡ R.mul s (y j)

    pub eigenvector_next : (B : ℕ → ℕ → A) (p : A) → IsEigenvector B p
        → (c s : A) (M M' : ℕ → ℕ → A)
        → IsNext n B c M M' → IsEigenvector M s → IsEigenvector M' (R.add (R.mul s p) c)
    eigenvector_next B p eigen c s M M' next eigenvector j h =
        let inner : ℕ → ℕ → A = λ i l. R.mul (B l j) (R.mul (M i l) (y i)) in
        let diagonal : ℕ → A = λ i. R.mul (cond (eqb i j) c R.zero) (y i) in
        EK.total_same F n _ (λ i. R.add (total F n (inner i)) (diagonal i)) (λ i k.
        ap (λ a. R.mul a (y i)) (next i j k h)
        ∙ L.add-mul R (total F n (λ l. R.mul (M i l) (B l j))) (cond (eqb i j) c R.zero) (y i)
        ∙ ap (λ a. R.add a (diagonal i))
        (R.mul_comm (total F n (λ l. R.mul (M i l) (B l j))) (y i)
        ∙ sym (EK.total-mul F n (y i) (λ l. R.mul (M i l) (B l j)))
        ∙ EK.total_same F n _ (inner i) (λ l o. turned (M i l) (B l j) (y i))))
        ∙ EK.total-add F n (λ i. total F n (inner i)) diagonal
        ∙ ap₂ R.add
        (EK.total_swap F n n inner
        ∙ EK.total_same F n _ (λ l. R.mul s (R.mul (B l j) (y l))) (λ l o.
        EK.total-mul F n (B l j) (λ i. R.mul (M i l) (y i)) ∙ ap (R.mul (B l j)) (eigenvector l o)
        ∙ L.mul_left_comm R (B l j) s (y l))
        ∙ EK.total-mul F n s (λ l. R.mul (B l j) (y l))
        ∙ ap (R.mul s) (eigen j h) ∙ sym (R.mul_assoc s p (y j)))
        (total-on_diagonal n c y j h)
        ∙ sym (L.add-mul R (R.mul s p) c (y j))

    none : (M : ℕ → ℕ → A) → ((i j : ℕ) → i < n → j < n → M i j ≡ R.zero) → (j : ℕ) → j < n
        → total F n (λ i. R.mul (M i j) (y i)) ≡ R.zero
    none M h j l = EK.total-none F n (λ i. R.mul (M i j) (y i)) (λ i k.
        ap (λ a. R.mul a (y i)) (h i j k l) ∙ L.zero-mul R (y i))

    pub eigenvector_zero : (M : ℕ → ℕ → A) → ((i j : ℕ) → i < n → j < n → M i j ≡ R.zero)
        → IsEigenvector M R.zero
    eigenvector_zero M h j l = none M h j l ∙ sym (L.zero-mul R (y j))

    pub eigenvector_none : (M : ℕ → ℕ → A) → ((i j : ℕ) → i < n → j < n → M i j ≡ R.zero) → (s : A)
        → s ≢ R.zero → IsEigenvector M s → (j : ℕ) → j < n → y j ≡ R.zero
    eigenvector_none M h s ne eigenvector j l =
        elim (FL.no_zero_divisors F s (y j) (sym (eigenvector j l)
        ∙ none M h j l)) [ inl z ↦ absurd (ne z) | inr z ↦ z ]

  -- ---- whole numbers in the field
  abbrev pub whole_at : List (ℕ → ℤ) → ℕ → ℕ → ℤ
  whole_at rows i j = get_or rows i (λ j. pos 0) j

  pub total-of_int : (n : ℕ) (rows : List (ℕ → ℤ)) → length rows ≡ n → (w : ℕ → ℤ) (j : ℕ)
      → of_int R (times_int w rows j) ≡ total F n (λ i. R.mul (of_int R (whole_at rows i j))
      (of_int R (w i)))
  total-of_int zero [] e w j = refl
  total-of_int zero (r ∷ rows) e w j = absurd (omega arith)
  total-of_int (suc n) [] e w j = absurd (omega arith)
  total-of_int (suc n) (r ∷ rows) e w j =
      of_int-add R (w 0 *ℤ r j) (times_int (λ i. w (suc i)) rows j)
      ∙ ap₂ R.add (of_int-mul R (w 0) (r j) ∙ R.mul_comm (of_int R (w 0)) (of_int R (r j)))
      (total-of_int n rows (omega arith) (λ i. w (suc i)) j)

  -- the matrix kills no vector but zero
  abbrev pub KillsNone : ℕ → List (ℕ → ℤ) → Type 0
  KillsNone n rows =
      (y : ℕ → A) → ((j : ℕ) → j < n → total F n (λ i. R.mul (of_int R (whole_at rows i j)) (y i))
      ≡ R.zero) → (i : ℕ) → i < n → y i ≡ R.zero

  -- ---- a vector of whole numbers that the matrix kills
  module _ (n : ℕ) (rows : List (ℕ → ℤ)) (size_is : length rows ≡ n) (q : ℕ) (big : 1 < q)
      (divides : (z : ℤ) → of_int R z ≡ R.zero → q ∣ nat_abs z) (none_left : KillsNone n rows) where
    record Killed (w : ℕ → ℤ) : Type 0 where
      killed : (j : ℕ) → j < n → times_int w rows j ≡ pos 0
      past : (i : ℕ) → n ≤ i → w i ≡ pos 0

    divisible : (w : ℕ → ℤ) → Killed w → (i : ℕ) → q ∣ nat_abs (w i)
    divisible w k i = elim (cases_lt i n) [
      | inl l ↦ divides (w i) (none_left (λ i. of_int R (w i)) (λ j h.
          sym (total-of_int n rows size_is w j) ∙ ap (of_int R) (k.killed j h)) i l)
      | inr l ↦ subst (λ z. q ∣ nat_abs z) (sym (k.past i l)) (N.dvd-zero q)
    ]

    less : (ℕ → ℤ) → ℕ → ℤ
    less w i = exact (w i) q

    less-is : (w : ℕ → ℤ) → Killed w → (i : ℕ) → less w i *ℤ pos q ≡ w i
    unfolding less
    less-is w k i = exact_whole (w i) q (divisible w k i)

    gone : (z : ℤ) → z *ℤ pos q ≡ pos 0 → z ≡ pos 0
    gone z e = cancel q z (pos 0) (omega arith) (e ∙ sym (L.zero-mul ℤ_ring (pos q)))

    again : (w : ℕ → ℤ) → Killed w → Killed (less w)
    again w k = record {
      killed = λ j h. gone (times_int (less w) rows j)
          (ℤ_ring.mul_comm (times_int (less w) rows j) (pos q)
          ∙ sym (ap (λ (v : ℕ → ℤ). v j) (C.combine-scale (sequences ℤ_ring ℕ) (pos q) (less w)
          rows))
          ∙ ap (λ v. times_int v rows j) (fun_ext (λ i. ℤ_ring.mul_comm (pos q) (less w i)
          ∙ less-is w k i)) ∙ k.killed j h);
      past = λ i l. gone (less w i) (less-is w k i ∙ k.past i l);
    }

    descent : (m : ℕ) (w : ℕ → ℤ) → Killed w → (i : ℕ) → nat_abs (w i) < m → w i ≡ pos 0
    descent zero w k i l = absurd (omega arith)
    descent (suc m) w k i l =
        let size : nat_abs (less w i) * q ≡ nat_abs (w i) =
        sym (unsigned_abs-mul (less w i) (pos q)) ∙ ap nat_abs (less-is w k i) in
        let zero_if : less w i ≡ pos 0 → w i ≡ pos 0 = λ e. sym (less-is w k i)
        ∙ ap (λ z. z *ℤ pos q) e ∙ L.zero-mul ℤ_ring (pos q) in
        elim (cases_lt 0 (nat_abs (less w i))) [
          | inl s ↦ zero_if (descent m (less w) (again w k) i (let more : nat_abs (less w i) * 2
              ≤ nat_abs (less w i) * q = N.mul-le-mul_left (nat_abs (less w i))
              (let two : 2 ≤ q = omega arith in two) in omega arith))
          | inr z ↦ zero_if (nat_abs-zero (less w i) (omega arith))
        ]

    pub leaves_none : (w : ℕ → ℤ) → ((j : ℕ) → j < n → times_int w rows j ≡ pos 0)
        → ((i : ℕ) → n ≤ i → w i ≡ pos 0) → (i : ℕ) → w i ≡ pos 0
    leaves_none w killed past i = descent (suc (nat_abs (w i))) w (record {
      killed = killed;
      past = past;
    }) i (omega arith)
