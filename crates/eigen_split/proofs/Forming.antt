-- The forms of one candidate are a basis of what a power kills, and all that later powers kill.
--   over-is              d times p over d
--   pushed               taking the new vectors of a kernel
--   forms_level          the forms by the first k powers
--   level_all            the forms of a candidate
use Rattle.std.proofs.Common.{◌≡◌, inl, inr, ℕ, zero, suc, ◌<◌, ◌≤◌, ℤ, pos, ◌*ℤ◌, List, [], ◌∷◌, ◌++◌, length, refl, sym, ap, subst, ◌∙◌, arith, append_assoc}
use Rattle.std.proofs.lemmas.List.{append-nil}
use native.Mathlib.Nat as N
use Rattle.algebra.specs.Each.{Each}
use Rattle.algebra.proofs.Each.{each-append, each_weaker}
use Rattle.algebra.specs.Ratio.{Ratio, ratio, product_of, reduce}
use Rattle.algebra.specs.Fraction.{Fraction, ℚ, whole, over}
use Rattle.algebra.proofs.RatioLaws as Q
use Rattle.algebra.proofs.RatioLaws.{Alike}
use Rattle.algebra.proofs.Fractions.{same_from_alike, ratio-product, ratio-fraction, ℚ_ring, ℚ_field}
use Rattle.algebra.proofs.Wholes.{ratio-whole, whole-some}
use Rattle.algebra.proofs.IntRing.{ℤ_ring}
use Rattle.vectors.specs.Lists.{row_of, matrix_of, tables}
use Rattle.vectors.specs.Rows.{Row, rows_of}
use Rattle.vectors.specs.Space.{Space, IsCombination}
use Rattle.vectors.specs.Sequences.{sequences}
use Rattle.vectors.specs.Splitting.{IsKilled, IsLevel, Pushing}
use Rattle.vectors.specs.Adding.{IsCombinationOf}
use Rattle.vectors.specs.Matrices.{rows_in, times_matrix, denominator}
use Rattle.vectors.proofs.Combinations as C
use Rattle.vectors.proofs.MatrixKernels as MK
use Rattle.vectors.proofs.Forms as FO
use Rattle.vectors.proofs.RowLaws as RL
use Rattle.vectors.proofs.SplitDecided.{denominator_some}
use Rattle.eigen_split.specs.Search.{IsKernelAt, AreNew, multiple, FormsTo, HasKernel, AreFormsOf}
use Rattle.eigen_split.proofs.Kernels.{row-entries, rows-entries, matrix-length, IsBasis, basis_none, basis_of, stopped}

-- ---- p over d
pub over-is : (d : ℕ) (p : ℤ) → 0 < d → ℚ.mul (whole (pos d)) (over p d) ≡ whole p
over-is d p some = same_from_alike _ _ (subst (λ (r : Ratio). Alike r (whole p).ratio)
    (sym (ratio-product (whole (pos d)) (over p d)))
    (subst (λ (r : Ratio). Alike (Q.product r (over p d).ratio) (whole p).ratio)
    (sym (ratio-whole (pos d))) (subst (λ (r : Ratio). Alike (Q.product (ratio (pos d) 1) r)
    (whole p).ratio)
    (sym (ratio-fraction (reduce (ratio p d)) (Q.reduce-value (ratio p d) some)))
    (subst (λ (r : Ratio). Alike (Q.product (ratio (pos d) 1) (reduce (ratio p d))) r)
    (sym (ratio-whole p)) cross))))
  where
    cross : Alike (Q.product (ratio (pos d) 1) (reduce (ratio p d))) (ratio p 1)
    cross = subst (λ r. Alike r (ratio p 1))
        (sym (Q.product-reduce_right (ratio (pos d) 1) (ratio p d) (omega arith) some))
        (Q.alike_trans _ (product_of (ratio (pos d) 1) (ratio p d)) _
        (N.mul-pos (let o : 0 < 1 = omega arith in o) some)
        (Q.reduce-alike (product_of (ratio (pos d) 1) (ratio p d)))
        (ℤ_ring.mul-one (pos d *ℤ p) ∙ ℤ_ring.mul_comm (pos d) p
        ∙ ap (λ m. p *ℤ pos m) (sym (N.one-mul d))))

-- ---- combinations of rows of a width
combination_rows : (n : ℕ) (vs : List (List Fraction)) (v : List Fraction)
    → Each (λ v. length v ≡ n) vs → length v ≡ n → IsCombinationOf vs v
    → IsCombination (rows_of ℚ_field n) (matrix_of ℚ_field n vs) (row_of ℚ_field n v)
combination_rows n vs v w l m =
    MK.entries-combination ℚ_field n (matrix_of ℚ_field n vs) (row_of ℚ_field n v)
    (subst (λ us. IsCombination (sequences ℚ_ring ℕ) us (row_of ℚ_field n v).0)
    (sym (rows-entries n vs w))
    (subst (IsCombination (sequences ℚ_ring ℕ) (tables ℚ_field vs)) (sym (row-entries n v l))
    m.is))

rows_combination : (n : ℕ) (vs : List (List Fraction)) (v : List Fraction)
    → Each (λ v. length v ≡ n) vs → length v ≡ n
    → IsCombination (rows_of ℚ_field n) (matrix_of ℚ_field n vs) (row_of ℚ_field n v)
    → IsCombinationOf vs v
rows_combination n vs v w l m = record {
  is = subst (IsCombination (sequences ℚ_ring ℕ) (tables ℚ_field vs)) (row-entries n v l)
      (subst (λ us. IsCombination (sequences ℚ_ring ℕ) us (row_of ℚ_field n v).0)
      (rows-entries n vs w) (MK.combination-entries ℚ_field n (matrix_of ℚ_field n vs)
      (row_of ℚ_field n v) m));
}

pub matrix-append : (n : ℕ) (us vs : List (List Fraction)) → matrix_of ℚ_field n (us ++ vs)
    ≡ matrix_of ℚ_field n us ++ matrix_of ℚ_field n vs
matrix-append n [] vs = refl
matrix-append n (u ∷ us) vs = ap (◌∷◌ (row_of ℚ_field n u)) (matrix-append n us vs)

abbrev Wide : ℕ → List (List Fraction) → Type 0
Wide n vs = Each (λ v. length v ≡ n) vs

module _ (n : ℕ) (rows : List (List Fraction)) (size : length rows ≡ n)
    (widths : Each (λ row. length row ≡ n) rows) where
  abbrev S : Space ℚ_ring (Row ℚ_field n)
  S = rows_of ℚ_field n

  abbrev t : Row ℚ_field n → Row ℚ_field n
  t y = times_matrix n rows y

  abbrev M : List (List Fraction) → List (Row ℚ_field n)
  M vs = matrix_of ℚ_field n vs

  new_widths : (found vectors new : List (List Fraction)) → Wide n vectors
      → AreNew found vectors new → Wide n new
  unfolding Each
  new_widths found [] new w a = subst (Wide n) (sym a) tt
  new_widths found (v ∷ vectors) new w a =
      elim a [
        | inl h ↦ new_widths found vectors new w.1 h.1
        | inr h ↦ subst (Wide n) (sym h.1.1) (
          w.0,
          new_widths (found ++ v ∷ []) vectors h.1.0 w.1
              h.1.2,
        )
      ]

  -- the vectors after those that were tried
  pushing : (c : Fraction) (k : ℕ) (es : List (List Fraction)) (tried : List (Row ℚ_field n))
      (done vectors new : List (List Fraction)) → Wide n (es ++ done) → Wide n vectors
      → Each (IsKilled S t c (suc k)) (M vectors)
      → Pushing S t c k (M es) tried (M done) → AreNew (es ++ done) vectors new
      → Pushing S t c k (M es) (tried ++ M vectors) (M (done ++ new))
  unfolding Each
  pushing c k es tried done [] new w x killed p a =
      subst (λ l. Pushing S t c k (M es) l (M (done ++ new))) (sym (append-nil tried))
      (subst (λ l. Pushing S t c k (M es) tried (M l)) (sym (append-nil done)
      ∙ ap (λ l. done ++ l) (sym a)) p)
  pushing c k es tried done (v ∷ vectors) new w x killed p a =
      let join : (tried ++ row_of ℚ_field n v ∷ []) ++ M vectors ≡ tried ++ row_of ℚ_field n v
      ∷ M vectors = append_assoc tried (row_of ℚ_field n v ∷ []) (M vectors) in
      let there : M (es ++ done) ≡ M es ++ M done = matrix-append n es done in
      elim a [
        | inl h ↦ subst (λ l. Pushing S t c k (M es) l (M (done ++ new))) join
            (pushing c k es (tried ++ row_of ℚ_field n v ∷ []) done vectors new w x.1 killed.1
            (FO.push_skip ℚ_field S t (RL.times-linear ℚ_field n (rows_in n rows)) c k (M es) tried
            (M done) (row_of ℚ_field n v) p
            (subst (λ l. IsCombination S l (row_of ℚ_field n v)) there
            (combination_rows n (es ++ done) v w x.0 h.0))) h.1)
        | inr h ↦
            let rest = h.1.0 in
            let one : M (done ++ v ∷ []) ≡ M done ++ row_of ℚ_field n v ∷ [] =
            matrix-append n done (v ∷ []) in
            let after : Pushing S t c k (M es) (tried ++ row_of ℚ_field n v ∷ [])
            (M (done ++ v ∷ [])) =
            subst (Pushing S t c k (M es) (tried ++ row_of ℚ_field n v ∷ [])) (sym one)
            (FO.push_more ℚ_field S t (RL.times-linear ℚ_field n (rows_in n rows)) c k (M es) tried
            (M done) (row_of ℚ_field n v) p
            (λ m. h.0 (rows_combination n (es ++ done) v w x.0
            (subst (λ l. IsCombination S l (row_of ℚ_field n v)) (sym there) m)))
            killed.0) in
            let wider : Wide n (es ++ (done ++ v ∷ [])) =
            subst (Wide n) (append_assoc es done (v ∷ [])) (each-append (λ v. length v ≡ n)
            (es ++ done) (v ∷ []) w (x.0, tt)) in
            subst (λ l. Pushing S t c k (M es) (tried ++ row_of ℚ_field n v ∷ M vectors) (M l))
            (append_assoc done (v ∷ []) rest ∙ ap (λ l. done ++ l) (sym h.1.1))
            (subst (λ l. Pushing S t c k (M es) l (M ((done ++ v ∷ []) ++ rest))) join
            (pushing c k es (tried ++ row_of ℚ_field n v ∷ []) (done ++ v ∷ []) vectors rest wider
            x.1 killed.1 after (subst (λ l. AreNew l vectors rest)
            (append_assoc es done (v ∷ [])) h.1.2)))
      ]

  module _ (p : ℤ) where
    abbrev d : ℕ
    d = denominator rows

    abbrev c : Fraction
    c = over p (denominator rows)

    basis : (k : ℕ) (vectors : List (List Fraction)) → IsKernelAt n (multiple n rows p k) vectors
        → IsBasis n rows size widths c (suc k) (M vectors)
    basis k vectors e = basis_of n rows size widths d p c (over-is d p (denominator_some rows))
        (whole-some d (denominator_some rows)) k vectors e

    record Level (k : ℕ) (found : List (List Fraction)) : Type 0 where
      is : IsLevel S t c k (M found)
      widths_are : Wide n found

    forms_level : (k : ℕ) (found : List (List Fraction)) → FormsTo n rows p k found → Level k found
    unfolding Each
    forms_level zero found e =
        record {
          is = subst (λ l. IsLevel S t c 0 (M l)) (sym e)
              (FO.level_none ℚ_field S t (RL.times-linear ℚ_field n (rows_in n rows)) c);
          widths_are = subst (Wide n) (sym e) tt;
        }
    forms_level (suc k) found e =
        let earlier = e.0 in
        let vectors = e.1 in
        let new = e.2 in
        let before : Level k earlier = forms_level k earlier e.3 in
        let b = basis k vectors e.4 in
        let wide_vectors : Wide n vectors = e.4.are.widths in
        let start : Pushing S t c k (M earlier) [] [] =
        FO.push_none ℚ_field S t (RL.times-linear ℚ_field n (rows_in n rows)) c k (M earlier)
        before.is in
        let done : Pushing S t c k (M earlier) (M vectors) (M new) =
        pushing c k earlier [] [] vectors new (subst (Wide n) (sym (append-nil earlier))
        before.widths_are) wide_vectors
        (each_weaker (IsCombination S (M vectors)) (IsKilled S t c (suc k)) b.made (M vectors)
        (C.combination-each S (M vectors))) start (subst (λ l. AreNew l vectors new)
        (sym (append-nil earlier)) e.5) in
        record {
          is = subst (λ l. IsLevel S t c (suc k) l) (sym (ap M e.6 ∙ matrix-append n earlier new))
              (FO.push_end ℚ_field S t (RL.times-linear ℚ_field n (rows_in n rows)) c k (M earlier)
              (M vectors) (M new) before.is done b.has);
          widths_are = subst (Wide n) (sym e.6) (each-append (λ v. length v ≡ n) earlier new
              before.widths_are (new_widths earlier vectors new wide_vectors e.5));
        }

    record Basis (k m : ℕ) : Type 0 where
      xs : List (Row ℚ_field n)
      is : IsBasis n rows size widths c k xs
      count : length xs ≡ m

    kernel_basis : (k m : ℕ) → HasKernel n rows p k m → Basis k m
    kernel_basis zero m e = record { xs = []; is = basis_none n rows size widths c; count = sym e }
    kernel_basis (suc k) m e = record {
      xs = M e.0;
      is = basis k e.0 e.1;
      count = matrix-length n e.0 ∙ e.2;
    }

    -- what the forms of a candidate are
    pub record IsWholeLevel (forms : List (List Fraction)) : Type 0 where
      pub powers : ℕ
      pub few : powers ≤ n
      pub level : IsLevel S t c powers (M forms)
      pub stop : (v : Row ℚ_field n) → IsKilled S t c n v → IsKilled S t c powers v
      pub wide : Each (λ form. length form ≡ n) forms

    pub whole_level : (forms : List (List Fraction)) → AreFormsOf n rows p forms
        → IsWholeLevel forms
    whole_level forms a =
        let l : Level a.powers forms = forms_level a.powers forms a.made in
        record {
          powers = a.powers;
          few = a.few;
          level = l.is;
          stop = elim a.ended [
            | inl e ↦ λ v h. subst (λ i. IsKilled S t c i v) (sym e) h
            | inr h ↦
                let b = kernel_basis a.powers h.0 h.1 in
                let b' = kernel_basis (suc a.powers) h.0 h.2 in
                stopped n rows size widths c a.powers b.xs b'.xs b.is b'.is (b.count ∙ sym b'.count)
                a.few
          ];
          wide = l.widths_are;
        }
