-- The kernel of an echelon list, as its rows give it.
--   row_more, rows_more, rows_same     a loop over the places, and over the columns
--   kernel_is                          what the loops make is the kernel of the theory
use Rattle.std.proofs.Common.{◌≡◌, inl, inr, ◌<◌, ◌≤◌, ℕ, zero, suc, ◌+◌, ◌-◌, Bool, true, false, cond, not, eqb, eqb→eq, ◌&&◌, ◌||◌, T, List, [], ◌∷◌, ◌++◌, length, refl, sym, ap, ap₂, subst, ◌∙◌, arith, append_assoc, add-one, Vec, Global}
use Rattle.std.proofs.lemmas.Bool.{cases_lt}
use mathlib.Core.Path.{fun_ext}
use Rattle.algebra.specs.Each.{Each}
use Rattle.algebra.specs.Fraction.{Fraction, ℚ}
use Rattle.vectors.specs.Lists.{tables}
use Rattle.vectors.specs.Echelon.{Pivots, IsReduced, IsKernelVector, AreKernelVectors, leads_at, free_from, kernel_vector}
use Rattle.vectors.specs.Adding.{entry, IsEchelonOf, AreKernel}
use Rattle.vectors.proofs.EchelonAdd as EA
use Rattle.vectors.proofs.EchelonKernel as EK
use Rattle.vectors.proofs.ListLaws.{entries-past}
use Rattle.frac128.specs.FracMeaning.{fraction_of}
use Rattle.frac128.specs.declared.fraction.Frac.{Frac}
use Rattle.linear.specs.Rows.{fractions_of, rows_of}
use Rattle.linear.specs.Parts.{is_free, kernel_entry, kernel_row, kernel_rows}
use Rattle.linear.proofs.Echelon.{F, at, Aligned, aligned, entry-is}
use Rattle.linear.proofs.Lists.{fractions-append}
use Rattle.linear.proofs.Clearing.{rows-append}

-- ---- the loops
shorter : (i w : ℕ) → i < w → w - i ≡ suc (w - (i + 1))
shorter i w h = omega arith

pub row_more : (rows : List (List Fraction)) (j w i : ℕ) {all : List Fraction} (out : List Frac)
    {more : List Frac} (x : Frac)
    → i < w → fraction_of x ≡ kernel_entry rows j i → more ≡ out ++ x ∷ []
    → all ≡ fractions_of out ++ kernel_row rows j i (w - i)
    → all ≡ fractions_of more ++ kernel_row rows j (i + 1) (w - (i + 1))
row_more rows j w i out x h e p s =
    s ∙ ap (λ m. fractions_of out ++ kernel_row rows j i m) (shorter i w h)
    ∙ ap₂ (λ a k. fractions_of out ++ a ∷ kernel_row rows j k (w - (i + 1))) (sym e)
    (sym (add-one i))
    ∙ sym (append_assoc (fractions_of out) (fraction_of x ∷ [])
    (kernel_row rows j (i + 1) (w - (i + 1))))
    ∙ ap (λ l. l ++ kernel_row rows j (i + 1) (w - (i + 1))) (sym (ap fractions_of p
    ∙ fractions-append out (x ∷ [])))

module _ (rows : List (List Fraction)) (w i : ℕ) (all : List (List Fraction))
    (out : List (Vec Frac Global)) (h : i < w) (s : all ≡ rows_of out ++ kernel_rows rows w i
    (w - i)) where
  opened : (b : Bool) → is_free i rows ≡ b
      → all ≡ rows_of out ++ cond b (kernel_row rows i 0 w ∷ kernel_rows rows w (i + 1)
      (w - (i + 1))) (kernel_rows rows w (i + 1) (w - (i + 1)))
  opened b q =
      s ∙ ap (λ m. rows_of out ++ kernel_rows rows w i m) (shorter i w h)
      ∙ ap₂ (λ b k. rows_of out ++ cond b (kernel_row rows i 0 w ∷ kernel_rows rows w k
      (w - (i + 1))) (kernel_rows rows w k (w - (i + 1)))) q (sym (add-one i))

  pub rows_more : {more : List (Vec Frac Global)} (v : Vec Frac Global) → is_free i rows ≡ true
      → fractions_of v.items ≡ kernel_row rows i 0 w → more ≡ out ++ v ∷ []
      → all ≡ rows_of more ++ kernel_rows rows w (i + 1) (w - (i + 1))
  rows_more v q e p =
      opened true q ∙ ap (λ a. rows_of out ++ a ∷ kernel_rows rows w (i + 1) (w - (i + 1))) (sym e)
      ∙ sym (append_assoc (rows_of out) (fractions_of v.items ∷ [])
      (kernel_rows rows w (i + 1) (w - (i + 1))))
      ∙ ap (λ l. l ++ kernel_rows rows w (i + 1) (w - (i + 1)))
      (sym (ap rows_of p ∙ rows-append out (v ∷ [])))

  pub rows_same : is_free i rows ≡ false → all ≡ rows_of out ++ kernel_rows rows w (i + 1)
      (w - (i + 1))
  rows_same q = opened false q

-- ---- as the theory has it
free_is : (rows : List (List Fraction)) (ps : Pivots F) (k : ℕ) → Aligned rows ps
    → is_free k rows ≡ not (leads_at F ps k)
free_is [] [] k a = refl
free_is [] (p ∷ ps) k a = absurd a
free_is (e ∷ rows) [] k a = absurd a
free_is (e ∷ rows) (p ∷ ps) k a = ap₂ (λ c b. not (eqb c k) && b) a.1 (free_is rows ps k a.2)
    ∙ deny (eqb p.0 k) (leads_at F ps k)
  where
    deny : (a b : Bool) → (not a && not b) ≡ not (a || b)
    deny true b = refl
    deny false b = refl

entry_is : (rows : List (List Fraction)) (ps : Pivots F) (j i : ℕ) → Aligned rows ps
    → kernel_entry rows j i ≡ kernel_vector F ps j i
entry_is [] [] j i a = refl
entry_is [] (p ∷ ps) j i a = absurd a
entry_is (e ∷ rows) [] j i a = absurd a
entry_is (e ∷ rows) (p ∷ ps) j i a =
    ap (λ c. cond (eqb c i) (ℚ.neg (entry e j)) (kernel_entry rows j i)) a.1
    ∙ ap₂ (λ x y. cond (eqb p.0 i) (ℚ.neg x) y) (entry-is e j ∙ ap (λ (f : ℕ → Fraction). f j) a.0)
    (entry_is rows ps j i a.2)

row-length : (rows : List (List Fraction)) (j k m : ℕ) → length (kernel_row rows j k m) ≡ m
row-length rows j k zero = refl
row-length rows j k (suc m) = ap suc (row-length rows j (suc k) m)

row_at : (rows : List (List Fraction)) (j k m i : ℕ) → i < m → at (kernel_row rows j k m) i
    ≡ kernel_entry rows j (k + i)
row_at rows j k zero i h = absurd (omega arith)
row_at rows j k (suc m) zero h = ap (kernel_entry rows j) (let e : k ≡ k + 0 = omega arith in e)
row_at rows j k (suc m) (suc i) h = row_at rows j (suc k) m i (omega arith)
    ∙ ap (kernel_entry rows j) (let e : suc k + i ≡ k + suc i = omega arith in e)

-- past the width a vector has zeros
past_zero : (n : ℕ) (ps : Pivots F) (j i : ℕ) → Each (λ p. p.0 < n) ps → j < n → n ≤ i
    → kernel_vector F ps j i ≡ ℚ.zero
unfolding Each
past_zero n [] j i w h g = go (eqb i j) refl
  where
    go : (b : Bool) → eqb i j ≡ b → cond b ℚ.one ℚ.zero ≡ ℚ.zero
    go true e = absurd (let q : i ≡ j = eqb→eq i j (subst T (sym e) tt) in omega arith)
    go false e = refl
past_zero n (p ∷ ps) j i w h g = go (eqb p.0 i) refl (past_zero n ps j i w.1 h g)
  where
    go : (b : Bool) → eqb p.0 i ≡ b → kernel_vector F ps j i ≡ ℚ.zero
        → cond b (ℚ.neg (p.1 j)) (kernel_vector F ps j i) ≡ ℚ.zero
    go true e r = absurd (let q : p.0 ≡ i = eqb→eq p.0 i (subst T (sym e) tt) in let l : p.0 < n =
        w.0 in omega arith)
    go false e r = r

module _ (n : ℕ) (rows : List (List Fraction)) (ps : Pivots F) (a : Aligned rows ps)
    (r : IsReduced F ps) (inside : Each (λ p. p.0 < n) ps) where
  vector_is : (j : ℕ) → j < n → at (kernel_row rows j 0 n) ≡ kernel_vector F ps j
  vector_is j h = fun_ext (λ i. elim (cases_lt i n) [
    | inl l ↦ row_at rows j 0 n i l ∙ ap (kernel_entry rows j) (let e : 0 + i ≡ i = omega arith in
        e) ∙ entry_is rows ps j i a
    | inr g ↦ entries-past F _ i (let e = row-length rows j 0 n in
        omega (arith, e, g)) ∙ sym (past_zero n ps j i inside h g)
  ])

  vectors_are : (k m : ℕ) → k + m ≤ n → AreKernelVectors F n ps (free_from F ps k m)
      (tables F (kernel_rows rows n k m))
  vectors_are k zero l = tt
  vectors_are k (suc m) l = go (is_free k rows) (leads_at F ps k) refl (free_is rows ps k a)
      (vectors_are (suc k) m (omega arith))
    where
      go : (b c : Bool) → leads_at F ps k ≡ c → b ≡ not (leads_at F ps k)
          → AreKernelVectors F n ps (free_from F ps (suc k) m)
          (tables F (kernel_rows rows n (suc k) m))
          → AreKernelVectors F n ps (cond c (free_from F ps (suc k) m)
          (k ∷ free_from F ps (suc k) m))
          (tables F (cond b (kernel_row rows k 0 n ∷ kernel_rows rows n (suc k) m)
          (kernel_rows rows n (suc k) m)))
      go true true e f v = absurd (let z : true ≡ false = f ∙ ap not e in cc)
      go true false e f v = (
        subst (IsKernelVector F n ps k) (sym (vector_is k (omega arith)))
            (EK.kernel_vector-is F n ps k r inside (omega arith) (EA.leads_at-out F ps k e)),
        v,
      )
      go false true e f v = v
      go false false e f v = absurd (let z : false ≡ true = f ∙ ap not e in cc)

vectors_widths : (rows : List (List Fraction)) (n k m : ℕ)
    → Each (λ v. length v ≡ n) (kernel_rows rows n k m)
unfolding Each
vectors_widths rows n k zero = tt
vectors_widths rows n k (suc m) = go (is_free k rows) (vectors_widths rows n (suc k) m)
  where
    go : (b : Bool) → Each (λ v. length v ≡ n) (kernel_rows rows n (suc k) m)
        → Each (λ v. length v ≡ n) (cond b (kernel_row rows k 0 n ∷ kernel_rows rows n (suc k) m)
        (kernel_rows rows n (suc k) m))
    go true h = (row-length rows k 0 n, h)
    go false h = h

pub kernel_is : {n : ℕ} {rows : List (List Fraction)} → IsEchelonOf n rows rows
    → AreKernel n rows (kernel_rows rows n 0 n)
kernel_is {n = n} {rows = rows} k = record {
  widths = vectors_widths rows n 0 n;
  pivots = k.pivots;
  reduced = k.reduced;
  are = vectors_are n rows k.pivots (aligned rows k.pivots k.are k.reduced.reduced)
      k.reduced.reduced k.reduced.inside 0 n (omega arith);
}
