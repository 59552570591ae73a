-- The forms of a class: where each has the recurrence of its value, of the rest and of the forms before it, its sequence is the form of the variables.
--   dot c w x              the sum of w i times x i
--   dot-combine            of a combination
--   IsNext                 x at n + 1 is the matrix times x at n, and the rest h
--   IsSequence             the sequence of a form
--   form_sequence          it is the form of the variables
--   from_forms             and what a combination of the forms makes of the variables it makes of the sequences
use Rattle.std.proofs.Common.{◌≡◌, ℕ, zero, suc, ◌<◌, List, [], ◌∷◌, length, refl, sym, ap, ap₂, ◌∙◌, arith}
use mathlib.Core.Path.{fun_ext}
use Rattle.algebra.specs.Ring.{CommRing, Field}
use Rattle.algebra.proofs.RingLaws as L
use Rattle.algebra.proofs.RingSolver.{ring_rules, ring}
use Rattle.algebra.specs.Each.{Each}
use Rattle.vectors.specs.Space.{Space, combine}
use Rattle.vectors.specs.Echelon.{total}
use Rattle.vectors.specs.Rows.{Row, rows_of, times_rows}
use Rattle.vectors.proofs.EchelonKernel as EK

module _ {A : Type 0} (F : Field A) (c : ℕ) where
  abbrev R : CommRing A
  R = F.ring

  abbrev S : Space F.ring (Row F c)
  S = rows_of F c

  abbrev pub dot : (ℕ → A) → (ℕ → A) → A
  dot w x = total F c (λ i. R.mul (w i) (x i))

  pub dot-add : (v w x : ℕ → A) → dot (λ i. R.add (v i) (w i)) x ≡ R.add (dot v x) (dot w x)
  dot-add v w x = ap (total F c) (fun_ext (λ i. L.add-mul R (v i) (w i) (x i)))
      ∙ EK.total-add F c (λ i. R.mul (v i) (x i)) (λ i. R.mul (w i) (x i))

  pub dot-scale : (k : A) (w x : ℕ → A) → dot (λ i. R.mul k (w i)) x ≡ R.mul k (dot w x)
  dot-scale k w x = ap (total F c) (fun_ext (λ i. R.mul_assoc k (w i) (x i)))
      ∙ EK.total-mul F c k (λ i. R.mul (w i) (x i))

  pub dot-none : (x : ℕ → A) → dot (λ i. R.zero) x ≡ R.zero
  dot-none x = EK.total-none F c (λ i. R.mul R.zero (x i)) (λ i l. L.zero-mul R (x i))

  pub dot-add_right : (w x y : ℕ → A) → dot w (λ i. R.add (x i) (y i)) ≡ R.add (dot w x) (dot w y)
  dot-add_right w x y = ap (total F c) (fun_ext (λ i. R.mul-add (w i) (x i) (y i)))
      ∙ EK.total-add F c (λ i. R.mul (w i) (x i)) (λ i. R.mul (w i) (y i))

  -- the sum of the f i times g of the i-th
  abbrev pub weigh : {V : Type 0} → (ℕ → A) → (V → A) → List V → A
  weigh f g [] = R.zero
  weigh f g (v ∷ vs) = R.add (R.mul (f 0) (g v)) (weigh (λ i. f (suc i)) g vs)

  pub dot-combine : (f : ℕ → A) (vs : List (Row F c)) (x : ℕ → A) → dot (combine S f vs).0 x
      ≡ weigh f (λ (v : Row F c). dot v.0 x) vs
  dot-combine f [] x = dot-none x
  dot-combine f (v ∷ vs) x = dot-add (λ i. R.mul (f 0) (v.0 i)) (combine S (λ i. f (suc i)) vs).0 x
      ∙ ap₂ R.add (dot-scale (f 0) v.0 x) (dot-combine (λ i. f (suc i)) vs x)

  -- the i-th row
  abbrev pub row_at : List (Row F c) → ℕ → Row F c
  row_at [] i = S.zero
  row_at (r ∷ rows) zero = r
  row_at (r ∷ rows) (suc i) = row_at rows i

  weigh_rows : (n : ℕ) (y : ℕ → A) (rows : List (Row F c)) (x : ℕ → A) → length rows ≡ n
      → weigh y (λ (r : Row F c). dot r.0 x) rows ≡ total F n
      (λ i. R.mul (y i) (dot (row_at rows i).0 x))
  weigh_rows zero y [] x l = refl
  weigh_rows zero y (r ∷ rows) x l = absurd (omega arith)
  weigh_rows (suc n) y [] x l = absurd (omega arith)
  weigh_rows (suc n) y (r ∷ rows) x l = ap (R.add (R.mul (y 0) (dot r.0 x)))
      (weigh_rows n (λ i. y (suc i)) rows x (omega arith))

  -- ---- the sequences
  module _ (rows : List (Row F c)) (size : length rows ≡ c) (x h : ℕ → ℕ → A) where
    -- one iteration of the class's variables
    pub record IsNext : Type 0 where
      pub is : (n i : ℕ) → i < c → x (suc n) i ≡ R.add (dot (row_at rows i).0 (x n)) (h n i)

    form_next : IsNext → (w : Row F c) (n : ℕ)
        → dot w.0 (x (suc n)) ≡ R.add (dot (times_rows F c rows w).0 (x n)) (dot w.0 (h n))
    form_next e w n =
        EK.total_same F c (λ i. R.mul (w.0 i) (x (suc n) i))
        (λ i. R.mul (w.0 i) (R.add (dot (row_at rows i).0 (x n)) (h n i))) (λ i l.
        ap (R.mul (w.0 i)) (e.is n i l))
        ∙ dot-add_right w.0 (λ i. dot (row_at rows i).0 (x n)) (h n)
        ∙ ap (λ z. R.add z (dot w.0 (h n))) (sym (dot-combine w.0 rows (x n)
        ∙ weigh_rows c w.0 rows (x n) size))

    -- a form, its value, and its sequence
    abbrev pub Told : Type 0
    Told = Row F c × A × (ℕ → A)

    abbrev pub forms_in : List Told → List (Row F c)
    forms_in [] = []
    forms_in (t ∷ ts) = t.0 ∷ forms_in ts

    -- the recurrence of a form's sequence: w times the matrix is its value times w and a
    -- combination of forms before it
    pub record IsSequence (before : List Told) (t : Told) : Type 0 where
      pub by : ℕ → A
      pub splits : times_rows F c rows t.0 ≡ S.add (S.scale t.1 t.0)
          (combine S by (forms_in before))
      pub start : t.2 0 ≡ dot t.0.0 (x 0)
      pub next : (n : ℕ) → t.2 (suc n) ≡ R.add (R.mul t.1 (t.2 n))
          (R.add (dot t.0.0 (h n)) (weigh by (λ (u : Told). u.2 n) before))

    abbrev pub IsForm : Told → Type 0
    IsForm t = (n : ℕ) → t.2 n ≡ dot t.0.0 (x n)

    weigh_forms : (by : ℕ → A) (before : List Told) → Each IsForm before → (n : ℕ)
        → weigh by (λ (u : Told). u.2 n) before ≡ weigh by (λ (v : Row F c). dot v.0 (x n))
        (forms_in before)
    unfolding Each
    weigh_forms by [] e n = refl
    weigh_forms by (t ∷ ts) e n = ap₂ R.add (ap (R.mul (by 0)) (e.0 n))
        (weigh_forms (λ i. by (suc i)) ts e.1 n)

    pub form_sequence : IsNext → (before : List Told) → Each IsForm before → (t : Told)
        → IsSequence before t → IsForm t
    form_sequence e before b t s zero = s.start
    form_sequence e before b t s (suc n) =
        s.next n
        ∙ ap₂ R.add (ap (R.mul t.1) (form_sequence e before b t s n)) (ap (R.add (dot t.0.0 (h n)))
        (weigh_forms s.by before b n ∙ sym (dot-combine s.by (forms_in before) (x n))))
        ∙ iteration (R.mul t.1 (dot t.0.0 (x n))) (dot t.0.0 (h n))
        (dot (combine S s.by (forms_in before)).0 (x n))
        ∙ ap (λ z. R.add (R.add z (dot (combine S s.by (forms_in before)).0 (x n)))
        (dot t.0.0 (h n))) (sym (dot-scale t.1 t.0.0 (x n)))
        ∙ ap (λ z. R.add z (dot t.0.0 (h n)))
        (sym (dot-add (λ i. R.mul t.1 (t.0.0 i)) (combine S s.by (forms_in before)).0 (x n)))
        ∙ ap (λ (v : Row F c). R.add (dot v.0 (x n)) (dot t.0.0 (h n))) (sym s.splits)
        ∙ sym (form_next e t.0 n)
      where
        iteration : (a b d : A) → R.add a (R.add b d) ≡ R.add (R.add a d) b
        iteration a b d = ring R (a ∷ b ∷ d ∷ []) (search ring_rules depth 40) refl

    -- a combination of the forms: where it is the i-th variable alone, the combination of the
    -- sequences is that variable
    pub from_forms : (ts : List Told) → Each IsForm ts → (by : ℕ → A) (v : Row F c)
        → v ≡ combine S by (forms_in ts) → (n : ℕ) → dot v.0 (x n) ≡ weigh by (λ (u : Told). u.2 n)
        ts
    from_forms ts f by v e n = ap (λ (v : Row F c). dot v.0 (x n)) e
        ∙ dot-combine by (forms_in ts) (x n) ∙ sym (weigh_forms by ts f n)
