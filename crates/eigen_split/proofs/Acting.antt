-- What a row times a power of the multiple of a matrix less p is: that of the fraction, times a power of the denominator.
use Rattle.std.proofs.Common.{◌≡◌, ◌≢◌, inl, inr, ℕ, zero, suc, ◌<◌, ℤ, pos, List, [], ◌∷◌, map, length, refl, sym, ap, ap₂, subst, ◌∙◌}
use Rattle.std.proofs.lemmas.List.{length-map}
use Rattle.algebra.specs.Each.{Each}
use Rattle.algebra.specs.Ring.{CommRing}
use Rattle.algebra.proofs.RingLaws as L
use Rattle.algebra.proofs.FieldLaws as FL
use Rattle.algebra.proofs.RingSolver.{ring_rules, ring, from_one}
use Rattle.algebra.specs.Fraction.{Fraction, ℚ, whole}
use Rattle.algebra.proofs.Fractions.{ℚ_ring, ℚ_field}
use Rattle.vectors.specs.Lists.{entries, below}
use Rattle.vectors.specs.Rows.{Row, rows_of}
use Rattle.vectors.specs.Space.{Space, combine}
use Rattle.vectors.specs.Splitting.{shift, shift_power}
use Rattle.vectors.specs.Adding.{entry}
use Rattle.vectors.specs.Matrices.{rows_in, times_matrix}
use Rattle.vectors.specs.Causes.{row_at, dot, column, numbers_to, on_diagonal, matrix_less as shifted_of, power}
use Rattle.vectors.proofs.EchelonKernel as EK
use Rattle.vectors.proofs.RowLaws as RL
use Rattle.vectors.proofs.ListLaws.{below-entry}
use Rattle.vectors.proofs.SplittingLaws as SL
use Rattle.linear.proofs.Echelon.{entry-is}
use Rattle.eigen_split.proofs.Sums.{Σ_to, total-diagonal, length-over, get-over, row_at-over, row_at-map, entries-column, dot-total}

abbrev R : CommRing Fraction
R = ℚ_ring

distributed : {A : Type 0} (R : CommRing A) (d m o y : A) → R.mul (R.add (R.mul d m) (R.neg o)) y
    ≡ R.add (R.mul d (R.mul m y)) (R.neg (R.mul o y))
distributed R d m o y = ring R (d ∷ m ∷ o ∷ y ∷ []) (search ring_rules depth 40) refl

regrouped : {A : Type 0} (R : CommRing A) (d c p t y : A) → R.mul d c ≡ p
    → R.add (R.mul d t) (R.neg (R.mul p y)) ≡ R.mul d (R.add t (R.neg (R.mul c y)))
regrouped R d c p t y e =
    from_one R y e (ring R (d ∷ c ∷ p ∷ t ∷ y ∷ []) (search ring_rules depth 40) refl)

total-neg : (n : ℕ) (f : ℕ → Fraction) → Σ_to n (λ i. ℚ.neg (f i)) ≡ ℚ.neg (Σ_to n f)
total-neg zero f = sym (L.neg-zero R)
total-neg (suc n) f = ap (ℚ.add (ℚ.neg (f 0))) (total-neg n (λ i. f (suc i)))
    ∙ sym (L.neg-add R (f 0) (Σ_to n (λ i. f (suc i))))

module _ (n : ℕ) (rows : List (List Fraction)) (size : length rows ≡ n)
    (widths : Each (λ row. length row ≡ n) rows) where
  abbrev S : Space ℚ_ring (Row ℚ_field n)
  S = rows_of ℚ_field n

  abbrev t : Row ℚ_field n → Row ℚ_field n
  t y = times_matrix n rows y

  abbrev pub at : List (List Fraction) → ℕ → ℕ → Fraction
  at xs i j = entry (row_at xs i) j

  -- a row times the matrix, by its entries
  acted-total : (xs : List (List Fraction)) (y : ℕ → Fraction) (j : ℕ) → j < n
      → (combine S y (rows_in n xs)).0 j ≡ Σ_to (length xs) (λ i. ℚ.mul (at xs i j) (y i))
  acted-total [] y j l = refl
  acted-total (x ∷ xs) y j l =
      ap₂ ℚ.add
      (R.mul_comm (y 0) (below ℚ_field n (entries ℚ_field x) j)
      ∙ ap (λ a. ℚ.mul a (y 0)) (below-entry ℚ_field n (entries ℚ_field x) j l
      ∙ sym (entry-is x j)))
      (acted-total xs (λ i. y (suc i)) j l)

  module _ (d : ℕ) (p : ℤ) (c : Fraction) (over : ℚ.mul (whole (pos d)) c ≡ whole p) where
    abbrev pub ys : List (List Fraction)
    ys = shifted_of d p rows

    pub shifted-at : (i j : ℕ) → i < n → j < n
        → at ys i j ≡ ℚ.add (ℚ.mul (whole (pos d)) (at rows i j)) (ℚ.neg (on_diagonal p i j))
    shifted-at i j l h =
        ap (λ r. entry r j)
        (row_at-over (λ i. map (λ j. ℚ.add (ℚ.mul (whole (pos d)) (entry (row_at rows i) j))
        (ℚ.neg (on_diagonal p i j))) (numbers_to (length rows))) (length rows) i
        (subst (λ m. i < m) (sym size) l))
        ∙ get-over (λ j. ℚ.add (ℚ.mul (whole (pos d)) (entry (row_at rows i) j))
        (ℚ.neg (on_diagonal p i j))) ℚ.zero (length rows) j (subst (λ m. j < m) (sym size) h)

    -- the first power
    pub acts_once : (y : Row ℚ_field n) (j : ℕ) → j < n → Σ_to n (λ i. ℚ.mul (at ys i j) (y.0 i))
        ≡ ℚ.mul (whole (pos d)) ((shift S t c y).0 j)
    acts_once y j h =
        EK.total_same ℚ_field n _ _ (λ i l. ap (λ a. ℚ.mul a (y.0 i)) (shifted-at i j l h)
        ∙ distributed R (whole (pos d)) (at rows i j) (on_diagonal p i j) (y.0 i))
        ∙ EK.total-add ℚ_field n (λ i. ℚ.mul (whole (pos d)) (ℚ.mul (at rows i j) (y.0 i)))
        (λ i. ℚ.neg (ℚ.mul (on_diagonal p i j) (y.0 i)))
        ∙ ap₂ ℚ.add
        (EK.total-mul ℚ_field n (whole (pos d)) (λ i. ℚ.mul (at rows i j) (y.0 i))
        ∙ ap (ℚ.mul (whole (pos d))) (subst (λ m. Σ_to m (λ i. ℚ.mul (at rows i j) (y.0 i))
        ≡ (t y).0 j) size (sym (acted-total rows y.0 j h))))
        (total-neg n (λ i. ℚ.mul (on_diagonal p i j) (y.0 i))
        ∙ ap ℚ.neg (total-diagonal p n y.0 j h))
        ∙ regrouped R (whole (pos d)) c (whole p) ((t y).0 j) (y.0 j) over

    -- ---- powers
    abbrev pub at_power : ℕ → List (List Fraction)
    at_power k = power n ys k

    power-length : (k : ℕ) → length (at_power k) ≡ n
    power-length zero =
        length-over (λ i. map (λ j. ℚ.add (ℚ.mul (whole (pos d)) (entry (row_at rows i) j))
        (ℚ.neg (on_diagonal p i j))) (numbers_to (length rows))) (length rows) ∙ size
    power-length (suc k) = length-map (at_power k) (λ row. map (λ j. dot row (column j ys))
        (numbers_to n)) ∙ power-length k

    power-width : (k i : ℕ) → i < n → length (row_at (at_power k) i) ≡ n
    power-width zero i l =
        ap length
        (row_at-over (λ i. map (λ j. ℚ.add (ℚ.mul (whole (pos d)) (entry (row_at rows i) j))
        (ℚ.neg (on_diagonal p i j))) (numbers_to (length rows))) (length rows) i
        (subst (λ m. i < m) (sym size) l))
        ∙ length-over (λ j. ℚ.add (ℚ.mul (whole (pos d)) (entry (row_at rows i) j))
        (ℚ.neg (on_diagonal p i j))) (length rows) ∙ size
    power-width (suc k) i l =
        ap length (row_at-map (λ row. map (λ j. dot row (column j ys)) (numbers_to n)) (at_power k)
        i (subst (λ m. i < m) (sym (power-length k)) l))
        ∙ length-over (λ j. dot (row_at (at_power k) i) (column j ys)) n

    power-next : (k i j : ℕ) → i < n → j < n → at (at_power (suc k)) i j ≡ Σ_to n
        (λ l. ℚ.mul (at (at_power k) i l) (at ys l j))
    power-next k i j l h =
        ap (λ r. entry r j) (row_at-map (λ row. map (λ j. dot row (column j ys)) (numbers_to n))
        (at_power k) i (subst (λ m. i < m) (sym (power-length k)) l))
        ∙ get-over (λ j. dot (row_at (at_power k) i) (column j ys)) ℚ.zero n j h
        ∙ dot-total n (row_at (at_power k) i) (column j ys) (power-width k i l)
        (length-map ys (λ row. entry row j) ∙ power-length 0)
        ∙ EK.total_same ℚ_field n _ _ (λ l m. ap (ℚ.mul (at (at_power k) i l))
        (entries-column j ys l))

    abbrev pub factor : ℕ → Fraction
    factor zero = whole (pos d)
    factor (suc k) = ℚ.mul (whole (pos d)) (factor k)

    turned : {A : Type 0} (R : CommRing A) (a b y : A) → R.mul (R.mul a b) y ≡ R.mul b (R.mul a y)
    turned R a b y = ring R (a ∷ b ∷ y ∷ []) (search ring_rules depth 40) refl

    pub acts : (k : ℕ) (y : Row ℚ_field n) (j : ℕ) → j < n
        → Σ_to n (λ i. ℚ.mul (at (at_power k) i j) (y.0 i)) ≡ ℚ.mul (factor k)
        ((shift_power S t c (suc k) y).0 j)
    acts zero y j h = acts_once y j h
    acts (suc k) y j h =
        let w : Row ℚ_field n = shift_power S t c (suc k) y in
        let inner : ℕ → ℕ → Fraction =
        λ i l. ℚ.mul (at ys l j) (ℚ.mul (at (at_power k) i l) (y.0 i)) in
        EK.total_same ℚ_field n _ (λ i. Σ_to n (inner i)) (λ i m.
        ap (λ a. ℚ.mul a (y.0 i)) (power-next k i j m h) ∙ R.mul_comm _ (y.0 i)
        ∙ sym (EK.total-mul ℚ_field n (y.0 i) (λ l. ℚ.mul (at (at_power k) i l) (at ys l j)))
        ∙ EK.total_same ℚ_field n _ (inner i) (λ l o. R.mul_comm (y.0 i) _
        ∙ turned R (at (at_power k) i l) (at ys l j) (y.0 i)))
        ∙ EK.total_swap ℚ_field n n inner
        ∙ EK.total_same ℚ_field n _ (λ l. ℚ.mul (factor k) (ℚ.mul (at ys l j) (w.0 l))) (λ l o.
        EK.total-mul ℚ_field n (at ys l j) (λ i. ℚ.mul (at (at_power k) i l) (y.0 i))
        ∙ ap (ℚ.mul (at ys l j)) (acts k y l o)
        ∙ sym (R.mul_assoc (at ys l j) (factor k) (w.0 l))
        ∙ turned R (at ys l j) (factor k) (w.0 l))
        ∙ EK.total-mul ℚ_field n (factor k) (λ l. ℚ.mul (at ys l j) (w.0 l))
        ∙ ap (ℚ.mul (factor k)) (acts_once w j h)
        ∙ sym (R.mul_assoc (factor k) (whole (pos d)) ((shift S t c w).0 j))
        ∙ ap₂ ℚ.mul (R.mul_comm (factor k) (whole (pos d))) (ap (λ (v : Row ℚ_field n). v.0 j)
        (sym (SL.shifted_comm ℚ_field S t (RL.times-linear ℚ_field n (rows_in n rows)) c c
        (suc k) y)))

    pub factor-some : whole (pos d) ≢ ℚ.zero → (k : ℕ) → factor k ≢ ℚ.zero
    factor-some ne zero = ne
    factor-some ne (suc k) = λ e. elim (FL.no_zero_divisors ℚ_field (whole (pos d)) (factor k) e) [
      | inl z ↦ ne z
      | inr z ↦ factor-some ne k z
    ]
