-- The kernel of the columns of a power is a basis of what the power kills.
--   IsBasis k xs         a basis of what the power k of the matrix less c kills
--   basis_none           at power 0
--   basis_of             the kernel that a power's columns have
--   stopped              where two of them have as many vectors, later powers kill no more
use Rattle.std.proofs.Common.{◌≡◌, ◌≢◌, inl, inr, ℕ, zero, suc, ◌+◌, ◌-◌, ◌<◌, ◌≤◌, ℤ, pos, List, [], ◌∷◌, map, length, refl, sym, ap, ap₂, subst, ◌∙◌, arith}
use mathlib.Core.Path.{fun_ext}
use Rattle.algebra.specs.Each.{Each}
use Rattle.algebra.proofs.Each.{each_weaker}
use Rattle.algebra.proofs.FieldLaws as FL
use Rattle.algebra.proofs.RingLaws as L
use Rattle.algebra.specs.Fraction.{Fraction, ℚ, whole}
use Rattle.algebra.proofs.Fractions.{ℚ_ring, ℚ_field}
use Rattle.vectors.specs.Echelon.{IsKernel, AreKernelVectors, free_from}
use Rattle.vectors.specs.Echelon as E
use Rattle.vectors.specs.Lists.{entries, tables, row_of, matrix_of}
use Rattle.vectors.specs.Rows.{Row, rows_of, entries_of}
use Rattle.vectors.specs.Space.{Space, IsCombination, Independent}
use Rattle.vectors.specs.Splitting.{shift_power, IsKilled}
use Rattle.vectors.specs.Adding.{entry}
use Rattle.vectors.specs.Matrices.{rows_in, times_matrix}
use Rattle.vectors.specs.Causes.{row_at, column, numbers_to}
use Rattle.vectors.proofs.Combinations as C
use Rattle.vectors.proofs.EchelonKernel as EK
use Rattle.vectors.proofs.EchelonAdd as EA
use Rattle.vectors.proofs.MatrixKernels as MK
use Rattle.vectors.proofs.Forms as FO
use Rattle.vectors.proofs.ListLaws.{entries-past, below-same}
use Rattle.vectors.proofs.RowLaws as RL
use Rattle.vectors.proofs.SplittingLaws as SL
use Rattle.eigen_split.specs.Search.{IsKernelAt}
use Rattle.eigen_split.proofs.Sums.{Σ_to, entries-column, over-suc}
use Rattle.eigen_split.proofs.Acting as A

-- lists of a width as rows
pub row-entries : (n : ℕ) (v : List Fraction) → length v ≡ n → (row_of ℚ_field n v).0
    ≡ entries ℚ_field v
row-entries n v e = fun_ext (λ i. below-same ℚ_field n (entries ℚ_field v) (λ i l.
    entries-past ℚ_field v i (omega (arith, e, l))) i)

pub rows-entries : (n : ℕ) (vs : List (List Fraction)) → Each (λ v. length v ≡ n) vs
    → entries_of ℚ_field n (matrix_of ℚ_field n vs) ≡ tables ℚ_field vs
unfolding Each
rows-entries n [] w = refl
rows-entries n (v ∷ vs) w = ap₂ ◌∷◌ (row-entries n v w.0) (rows-entries n vs w.1)

pub matrix-length : (n : ℕ) (vs : List (List Fraction)) → length (matrix_of ℚ_field n vs)
    ≡ length vs
matrix-length n [] = refl
matrix-length n (v ∷ vs) = ap suc (matrix-length n vs)

pub each_tables : (Q : (ℕ → Fraction) → Type 0) (xs : List (List Fraction))
    → Each (λ x. Q (entries ℚ_field x)) xs → Each Q (tables ℚ_field xs)
unfolding Each
each_tables Q [] h = tt
each_tables Q (x ∷ xs) h = (h.0, each_tables Q xs h.1)

pub tables_each : (Q : (ℕ → Fraction) → Type 0) (xs : List (List Fraction))
    → Each Q (tables ℚ_field xs) → Each (λ x. Q (entries ℚ_field x)) xs
unfolding Each
tables_each Q [] h = tt
tables_each Q (x ∷ xs) h = (h.0, tables_each Q xs h.1)

pub each_over : {A : Type 0} (Q : A → Type 0) (f : ℕ → A) (n : ℕ) → ((j : ℕ) → j < n → Q (f j))
    → Each Q (map f (numbers_to n))
unfolding Each
each_over Q f zero h = tt
each_over Q f (suc n) h = subst (Each Q) (sym (over-suc f n)) (
  h 0 (omega arith),
  each_over Q (λ i. f (suc i)) n (λ j l. h (suc j) (omega arith)),
)

pub over_each : {A : Type 0} (Q : A → Type 0) (f : ℕ → A) (n : ℕ) → Each Q (map f (numbers_to n))
    → (j : ℕ) → j < n → Q (f j)
unfolding Each
over_each Q f zero h j l = absurd (omega arith)
over_each Q f (suc n) h zero l = (subst (Each Q) (over-suc f n) h).0
over_each Q f (suc n) h (suc j) l = over_each Q (λ i. f (suc i)) n
    ((subst (Each Q) (over-suc f n) h).1) j (omega arith)

module _ (n : ℕ) (rows : List (List Fraction)) (size : length rows ≡ n)
    (widths : Each (λ row. length row ≡ n) rows) where
  abbrev S : Space ℚ_ring (Row ℚ_field n)
  S = rows_of ℚ_field n

  abbrev t : Row ℚ_field n → Row ℚ_field n
  t y = times_matrix n rows y

  pub record IsBasis (c : Fraction) (k : ℕ) (xs : List (Row ℚ_field n)) : Type 0 where
    pub made : (v : Row ℚ_field n) → IsCombination S xs v → IsKilled S t c k v
    pub has : (v : Row ℚ_field n) → IsKilled S t c k v → IsCombination S xs v
    pub independent : Independent S xs

  pub basis_none : (c : Fraction) → IsBasis c 0 []
  basis_none c = record {
    made = λ v p. p.1;
    has = λ v e. subst (IsCombination S []) (sym e) (C.combination-zero S []);
    independent = λ f e i l. absurd (omega arith);
  }

  module _ (d : ℕ) (p : ℤ) (c : Fraction) (over : ℚ.mul (whole (pos d)) c ≡ whole p)
      (some : whole (pos d) ≢ ℚ.zero) where
    abbrev P : ℕ → List (List Fraction)
    P k = A.at_power n rows size widths d p c over k

    abbrev f : ℕ → Fraction
    f k = A.factor n rows size widths d p c over k

    Zero : ℕ → (ℕ → Fraction) → ℕ → Type 0
    Zero k y j = Σ_to n (λ i. ℚ.mul (entry (row_at (P k) i) j) (y i)) ≡ ℚ.zero

    column-in : (k : ℕ) (y : ℕ → Fraction) (j : ℕ) → Zero k y j
        → Σ_to n (λ i. ℚ.mul (entries ℚ_field (column j (P k)) i) (y i)) ≡ ℚ.zero
    unfolding Zero
    column-in k y j h = EK.total_same ℚ_field n _ _ (λ i l.
        ap (λ a. ℚ.mul a (y i)) (entries-column j (P k) i)) ∙ h

    column-out : (k : ℕ) (y : ℕ → Fraction) (j : ℕ)
        → Σ_to n (λ i. ℚ.mul (entries ℚ_field (column j (P k)) i) (y i)) ≡ ℚ.zero → Zero k y j
    unfolding Zero
    column-out k y j h = EK.total_same ℚ_field n _ _ (λ i l.
        ap (λ a. ℚ.mul a (y i)) (sym (entries-column j (P k) i))) ∙ h

    abbrev columns : ℕ → List (List Fraction)
    columns k = map (λ j. column j (P k)) (numbers_to n)

    killed_kernel : (k : ℕ) (y : Row ℚ_field n) → IsKilled S t c (suc k) y
        → IsKernel ℚ_field n (tables ℚ_field (columns k)) y.0
    unfolding Zero
    killed_kernel k y e =
        each_tables (λ r. Σ_to n (λ i. ℚ.mul (r i) (y.0 i)) ≡ ℚ.zero) (columns k)
        (each_over (λ x. Σ_to n (λ i. ℚ.mul (entries ℚ_field x i) (y.0 i)) ≡ ℚ.zero)
        (λ j. column j (P k)) n
        (λ j l. column-in k y.0 j (A.acts n rows size widths d p c over k y j l
        ∙ ap (λ (w : Row ℚ_field n). ℚ.mul (f k) (w.0 j)) e ∙ L.mul-zero ℚ_ring (f k))))

    kernel_killed : (k : ℕ) (y : Row ℚ_field n) → IsKernel ℚ_field n (tables ℚ_field (columns k))
        y.0 → IsKilled S t c (suc k) y
    unfolding Zero
    kernel_killed k y h =
        RL.row_zero ℚ_field n (shift_power S t c (suc k) y) (λ j l.
        elim (FL.no_zero_divisors ℚ_field (f k) ((shift_power S t c (suc k) y).0 j)
        (sym (A.acts n rows size widths d p c over k y j l)
        ∙ column-out k y.0 j (over_each (λ x. Σ_to n (λ i. ℚ.mul (entries ℚ_field x i) (y.0 i))
        ≡ ℚ.zero) (λ j. column j (P k)) n
        (tables_each (λ r. Σ_to n (λ i. ℚ.mul (r i) (y.0 i)) ≡ ℚ.zero) (columns k) h) j l))) [
          | inl z ↦ absurd (A.factor-some n rows size widths d p c over some k z)
          | inr z ↦ z
        ])

    -- the kernel of the echelon list
    pub basis_of : (k : ℕ) (vectors : List (List Fraction)) → IsKernelAt n (P k) vectors
        → IsBasis c (suc k) (matrix_of ℚ_field n vectors)
    basis_of k vectors e =
        let xs = matrix_of ℚ_field n vectors in
        let same = rows-entries n vectors e.are.widths in
        let ps = e.are.pivots in
        let js = free_from ℚ_field ps 0 n in
        let free = EA.free_columns ℚ_field n ps in
        let vs : AreKernelVectors ℚ_field n ps js (entries_of ℚ_field n xs) =
        subst (AreKernelVectors ℚ_field n ps js) (sym same) e.are.are in
        let reduced = e.are.reduced in
        let listed : tables ℚ_field e.echelon ≡ E.rows_in ℚ_field e.is.pivots = e.is.are in
        let down : (y : ℕ → Fraction) → IsKernel ℚ_field n (tables ℚ_field (columns k)) y
        → IsKernel ℚ_field n (E.rows_in ℚ_field ps) y =
        λ y h. MK.kernel-made ℚ_field n (E.rows_in ℚ_field ps) (tables ℚ_field e.echelon) y
        reduced.made
        (subst (λ l. IsKernel ℚ_field n l y) (sym listed)
        (MK.kernel-made ℚ_field n (E.rows_in ℚ_field e.is.pivots) (tables ℚ_field (columns k))
        y e.is.reduced.made h)) in
        let up : (y : ℕ → Fraction) → IsKernel ℚ_field n (E.rows_in ℚ_field ps) y
        → IsKernel ℚ_field n (tables ℚ_field (columns k)) y =
        λ y h. MK.kernel-made ℚ_field n (tables ℚ_field (columns k)) (E.rows_in ℚ_field e.is.pivots)
        y e.is.reduced.makes
        (subst (λ l. IsKernel ℚ_field n l y) listed
        (MK.kernel-made ℚ_field n (tables ℚ_field e.echelon) (E.rows_in ℚ_field ps) y
        reduced.makes h)) in
        record {
          made = λ v q.
              kernel_killed k v (up v.0 (EK.kernel_in ℚ_field n ps js (entries_of ℚ_field n xs)
              reduced.reduced reduced.inside free vs v.0 (MK.combination-entries ℚ_field n xs v
              q)).0);
          has = λ v h. MK.entries-combination ℚ_field n xs v (EK.kernel_out ℚ_field n ps js
              (entries_of ℚ_field n xs) reduced.reduced reduced.inside free vs v.0
              (down v.0 (killed_kernel k v h), v.1));
          independent = MK.kernel_rows-independent ℚ_field n ps js xs free vs;
        }

  pub stopped : (c : Fraction) (k : ℕ) (xs ys : List (Row ℚ_field n)) → IsBasis c k xs
      → IsBasis c (suc k) ys → length xs ≡ length ys → k ≤ n → (v : Row ℚ_field n)
      → IsKilled S t c n v → IsKilled S t c k v
  stopped c k xs ys b b' same small v e =
      FO.not_grown ℚ_field S t (RL.times-linear ℚ_field n (rows_in n rows)) c k xs ys b.made
      b.independent
      (each_weaker (IsCombination S xs) (IsCombination S ys) (λ w q.
      b'.has w (SL.killed-more ℚ_field S t (RL.times-linear ℚ_field n (rows_in n rows)) c k
      w (b.made w q))) xs (C.combination-each S xs))
      b'.has same (n - k) v (let split : n ≡ (n - k) + k = omega arith in
      subst (λ i. IsKilled S t c i v) split e)
