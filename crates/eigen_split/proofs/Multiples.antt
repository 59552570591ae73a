-- The powers in whole numbers: what they mean, and how great they are.
--   entry_divides          an entry's denominator divides the least one
--   power_is               they mean the powers of the fractions
--   column_bound           a column sum of the matrix less a candidate is at most twice the limit
--   power_within           the entries of a power
--   power_small, fits_next     so they fit, and so does the next product
use Rattle.std.proofs.Common.{◌≡◌, inl, inr, ℕ, zero, suc, ◌+◌, ◌*◌, ◌^◌, ◌<◌, ◌≤◌, ℤ, pos, ◌+ℤ◌, ◌*ℤ◌, neg_ℤ, true, false, Bool, T, cond, eqb, leb, List, [], ◌∷◌, map, length, get_or, refl, sym, ap, ap₂, subst, ◌∙◌, arith, lit<}
use Prim.Native.Nat.{◌∣◌}
use native.Mathlib.Nat as N
use lib.IntN.{nat_abs}
use Rattle.std.proofs.Math.Nat.{pow-le-pow_right}
use Rattle.std.proofs.Math.Facts.{leb_yes}
use Rattle.std.proofs.lemmas.Bool.{ne_eqb}
use Rattle.std.proofs.lemmas.Int.{unsigned_abs-mul}
use Rattle.std.proofs.lemmas.Simd.{map-map}
use Rattle.algebra.specs.Each.{Each}
use Rattle.algebra.proofs.Basics.{eqb_same, equal_or_not}
use Rattle.algebra.proofs.Each.{each_weaker, each-map}
use Rattle.algebra.proofs.IntRing.{ℤ_ring}
use Rattle.algebra.specs.Fraction.{Fraction, ℚ, whole}
use Rattle.algebra.proofs.LcmLaws.{lcm-left, lcm-right}
use Rattle.algebra.proofs.Fractions.{some}
use Rattle.algebra.proofs.RatioLaws.{nat_abs-neg_ℤ}
use Rattle.algebra.proofs.Wholes.{sum-whole, product-whole, opposite-whole}
use Rattle.vectors.specs.Adding.{entry}
use Rattle.vectors.specs.Matrices.{row_denominator, denominator, whole_number, sum_of_column, greatest_sum}
use Rattle.vectors.specs.Causes.{limit, row_at, dot, column, numbers_to, on_diagonal, matrix_less, product, power}
use Rattle.algebra.proofs.Wholes.{of_int-whole}
use Rattle.vectors.proofs.SplitDecided.{row_some, zero-den, denominator_some, whole_number-is, at_most_greatest}
use Rattle.vectors.proofs.WholeEigen.{nat_abs-add}
use Rattle.linear.proofs.Echelon.{entry-is}
use Rattle.eigen_split.specs.Ints.{wholes, whole_rows, shifted_entry, shifted_row, shifted_rows, int_column, int_columns, int_dot, times_columns, power_rows, sizes, FitsProduct, IsReady}
use Rattle.eigen_split.proofs.Sums.{over_same, over-suc, get-over}
use Rattle.eigen_split.proofs.Kernels.{each_over}

-- ---- denominators
pub in_row : (row : List Fraction) (j : ℕ) → (entry row j).den ∣ row_denominator row
in_row [] j = subst (λ d. d ∣ 1) (sym zero-den) (N.dvd_refl 1)
in_row (a ∷ row) zero = lcm-left a.den (row_denominator row)
in_row (a ∷ row) (suc j) = N.dvd_trans _ (in_row row j) (lcm-right a.den (row_denominator row)
    (row_some row))

pub entry_divides : (rows : List (List Fraction)) (i j : ℕ)
    → (entry (row_at rows i) j).den ∣ denominator rows
entry_divides [] i j = subst (λ d. d ∣ 1) (sym zero-den) (N.dvd_refl 1)
entry_divides (row ∷ rows) zero j = N.dvd_trans _ (in_row row j) (lcm-left (row_denominator row)
    (denominator rows))
entry_divides (row ∷ rows) (suc i) j = N.dvd_trans _ (entry_divides rows i j)
    (lcm-right (row_denominator row) (denominator rows) (denominator_some rows))

pub whole-is : (rows : List (List Fraction)) (i j : ℕ)
    → whole (whole_number (denominator rows) (entry (row_at rows i) j))
    ≡ ℚ.mul (whole (pos (denominator rows))) (entry (row_at rows i) j)
whole-is rows i j =
    sym (of_int-whole (whole_number (denominator rows) (entry (row_at rows i) j)))
    ∙ whole_number-is (denominator rows) (entry (row_at rows i) j) (entry_divides rows i j)
    ∙ ap (λ x. ℚ.mul x (entry (row_at rows i) j)) (of_int-whole (pos (denominator rows)))

-- ---- the diagonal
on_same : (p : ℤ) (i : ℕ) → on_diagonal p i i ≡ whole p
on_same p zero = refl
on_same p (suc i) = on_same p i

off_same : (p : ℤ) (i j : ℕ) → (i ≡ j → ⊥) → on_diagonal p i j ≡ ℚ.zero
off_same p zero zero ne = absurd (ne refl)
off_same p zero (suc j) ne = refl
off_same p (suc i) zero ne = refl
off_same p (suc i) (suc j) ne = off_same p i j (λ e. ne (ap suc e))

pub diagonal-is : (p : ℤ) (i j : ℕ) → on_diagonal p i j ≡ whole (cond (eqb i j) p (pos 0))
diagonal-is p i j = elim (equal_or_not i j) [
  | inl e ↦ subst (λ j. on_diagonal p i j ≡ whole (cond (eqb i j) p (pos 0))) e (on_same p i
      ∙ ap (λ b. whole (cond b p (pos 0))) (sym (eqb_same i)))
  | inr ne ↦ off_same p i j ne ∙ ap (λ b. whole (cond b p (pos 0))) (sym (ne_eqb i j ne))
]

pub shifted_entry-is : (p : ℤ) (rows : List (List Fraction)) (i j : ℕ)
    → whole (shifted_entry (denominator rows) p rows i j)
    ≡ ℚ.add (ℚ.mul (whole (pos (denominator rows))) (entry (row_at rows i) j))
    (ℚ.neg (on_diagonal p i j))
shifted_entry-is p rows i j =
    sym (sum-whole (whole_number (denominator rows) (entry (row_at rows i) j))
    (neg_ℤ (cond (eqb i j) p (pos 0))))
    ∙ ap₂ ℚ.add (whole-is rows i j) (sym (opposite-whole (cond (eqb i j) p (pos 0)))
    ∙ ap ℚ.neg (sym (diagonal-is p i j)))

-- ---- products
dot-is : (xs ys : List ℤ) → dot (wholes xs) (wholes ys) ≡ whole (int_dot xs ys)
dot-is [] ys = refl
dot-is (x ∷ xs) [] = refl
dot-is (x ∷ xs) (y ∷ ys) = ap₂ ℚ.add (product-whole x y) (dot-is xs ys)
    ∙ sum-whole (x *ℤ y) (int_dot xs ys)

entry-whole : (row : List ℤ) (j : ℕ) → entry (wholes row) j ≡ whole (get_or row j (pos 0))
entry-whole [] j = refl
entry-whole (x ∷ row) zero = refl
entry-whole (x ∷ row) (suc j) = entry-whole row j

pub column-is : (j : ℕ) (rows : List (List ℤ)) → column j (whole_rows rows)
    ≡ wholes (int_column j rows)
column-is j [] = refl
column-is j (row ∷ rows) = ap₂ ◌∷◌ (entry-whole row j) (column-is j rows)

module _ (n : ℕ) (p : ℤ) (rows : List (List Fraction)) (size : length rows ≡ n) where
  abbrev d : ℕ
  d = denominator rows

  pub first_is : whole_rows (shifted_rows d p rows) ≡ matrix_less d p rows
  first_is =
      map-map wholes (λ i. shifted_row d p rows i) (numbers_to (length rows))
      ∙ over_same _ _ (length rows) (λ i l. map-map whole (λ j. shifted_entry d p rows i j)
      (numbers_to (length rows))
      ∙ over_same _ _ (length rows) (λ j h. shifted_entry-is p rows i j))

  row-is : (row : List ℤ)
      → wholes (times_columns (int_columns (length rows) (shifted_rows d p rows)) row)
      ≡ map (λ j. dot (wholes row) (column j (matrix_less d p rows))) (numbers_to n)
  row-is row =
      ap wholes (map-map (int_dot row) (λ j. int_column j (shifted_rows d p rows))
      (numbers_to (length rows)))
      ∙ map-map whole (λ j. int_dot row (int_column j (shifted_rows d p rows)))
      (numbers_to (length rows))
      ∙ over_same _ _ (length rows) (λ j l. sym (dot-is row (int_column j (shifted_rows d p rows)))
      ∙ ap (dot (wholes row)) (sym (column-is j (shifted_rows d p rows))
      ∙ ap (column j) first_is))
      ∙ ap (λ m. map (λ j. dot (wholes row) (column j (matrix_less d p rows))) (numbers_to m)) size

  rows-are : (xs : List (List ℤ))
      → whole_rows (map (times_columns (int_columns (length rows) (shifted_rows d p rows))) xs)
      ≡ product n (whole_rows xs) (matrix_less d p rows)
  rows-are [] = refl
  rows-are (x ∷ xs) = ap₂ ◌∷◌ (row-is x) (rows-are xs)

  pub power_is : (k : ℕ) → whole_rows (power_rows d p rows k) ≡ power n (matrix_less d p rows) k
  power_is zero = first_is
  power_is (suc k) = rows-are (power_rows d p rows k)
      ∙ ap (λ xs. product n xs (matrix_less d p rows))
      (power_is k)

-- ---- how great they are
sizes_same : (f g : ℕ → ℤ) (m : ℕ) → ((i : ℕ) → i < m → f i ≡ g i) → sizes (map f (numbers_to m))
    ≡ sizes (map g (numbers_to m))
sizes_same f g m h = ap sizes (over_same f g m h)

pub entry_in_sum : (d : ℕ) (rows : List (List Fraction)) (i j : ℕ) → i < length rows
    → nat_abs (whole_number d (entry (row_at rows i) j)) ≤ sum_of_column d rows j
entry_in_sum d [] i j l = absurd (omega arith)
entry_in_sum d (row ∷ rows) zero j l =
    (let e = ap (λ a. nat_abs (whole_number d a)) (entry-is row j) in omega (arith, e))
entry_in_sum d (row ∷ rows) (suc i) j l = (let r = entry_in_sum d rows i j (omega arith) in
    omega (arith, r))

-- all but one are the same
sizes_more : (f g : ℕ → ℤ) (m j q : ℕ) → ((i : ℕ) → (i ≡ j → ⊥) → f i ≡ g i)
    → nat_abs (f j) ≤ nat_abs (g j) + q → sizes (map f (numbers_to m))
    ≤ sizes (map g (numbers_to m)) + q
sizes_more f g zero j q h k = omega arith
sizes_more f g (suc m) zero q h k =
    let a = ap sizes (over-suc f m) in
    let b = ap sizes (over-suc g m) in
    let c = sizes_same (λ i. f (suc i)) (λ i. g (suc i)) m (λ i l.
    h (suc i) (λ e. absurd (omega arith))) in
    omega (arith, a, b, c, k)
sizes_more f g (suc m) (suc j) q h k =
    let a = ap sizes (over-suc f m) in
    let b = ap sizes (over-suc g m) in
    let c = sizes_more (λ i. f (suc i)) (λ i. g (suc i)) m j q (λ i ne.
    h (suc i) (λ e. ne (omega arith))) k in
    let e : nat_abs (f 0) ≡ nat_abs (g 0) = ap nat_abs (h 0 (λ e. absurd (omega arith))) in
    omega (arith, a, b, c, e)

column_sizes : (d : ℕ) (rows : List (List Fraction)) (j : ℕ)
    → sizes (map (λ i. whole_number d (entry (row_at rows i) j)) (numbers_to (length rows)))
    ≡ sum_of_column d rows j
column_sizes d [] j = refl
column_sizes d (row ∷ rows) j =
    ap sizes (over-suc (λ i. whole_number d (entry (row_at (row ∷ rows) i) j)) (length rows))
    ∙ ap₂ ◌+◌ (ap (λ a. nat_abs (whole_number d a)) (entry-is row j)) (column_sizes d rows j)

pub dot_bound : (m : ℕ) (xs ys : List ℤ) → Each (λ x. nat_abs x ≤ m) xs → nat_abs (int_dot xs ys)
    ≤ m * sizes ys
unfolding Each
dot_bound m [] ys h = omega arith
dot_bound m (x ∷ xs) [] h = omega arith
dot_bound m (x ∷ xs) (y ∷ ys) h =
    let rest = dot_bound m xs ys h.1 in
    let first : nat_abs x * nat_abs y ≤ m * nat_abs y = N.mul-le-mul_right (nat_abs y) h.0 in
    let both = nat_abs-add (x *ℤ y) (int_dot xs ys) in
    let product = unsigned_abs-mul x y in
    let spread : m * (nat_abs y + sizes ys) ≡ m * nat_abs y + m * sizes ys =
    N.mul-add m (nat_abs y) (sizes ys) in
    omega (arith, rest, first, both, product, spread)

abbrev pub base : ℕ → ℕ
base n = 2 * limit n

module _ (n : ℕ) (p : ℤ) (rows : List (List Fraction)) (ready : IsReady n rows (denominator rows))
    (candidate : nat_abs p ≤ limit n) where
  abbrev D : ℕ
  D = denominator rows

  pub column_bound : (j : ℕ) → j < n → sizes (int_column j (shifted_rows D p rows)) ≤ base n
  column_bound j l =
      let f : ℕ → ℤ = λ i. shifted_entry D p rows i j in
      let g : ℕ → ℤ = λ i. whole_number D (entry (row_at rows i) j) in
      let as_map : int_column j (shifted_rows D p rows) ≡ map f (numbers_to (length rows)) =
      map-map (λ row. get_or row j (pos 0)) (λ i. shifted_row D p rows i) (numbers_to (length rows))
      ∙ over_same _ _ (length rows) (λ i h. get-over (λ j. shifted_entry D p rows i j) (pos 0)
      (length rows) j (subst (λ m. j < m) (sym ready.count) l)) in
      let same : (i : ℕ) → (i ≡ j → ⊥) → f i ≡ g i = λ i ne.
      ap (λ b. g i +ℤ neg_ℤ (cond b p (pos 0))) (ne_eqb i j ne) ∙ plain (g i) in
      let more : nat_abs (f j) ≤ nat_abs (g j) + nat_abs p =
      subst (λ b. nat_abs (g j +ℤ neg_ℤ (cond b p (pos 0))) ≤ nat_abs (g j) + nat_abs p)
      (sym (eqb_same j))
      (let s = nat_abs-add (g j) (neg_ℤ p) in let e = nat_abs-neg_ℤ p in omega (arith, s, e)) in
      let a = ap sizes as_map in
      let b = sizes_more f g (length rows) j (nat_abs p) same more in
      let c = column_sizes D rows j in
      let e = at_most_greatest n (sum_of_column D rows) j l in
      let w : greatest_sum n rows ≤ limit n = ready.within in
      omega (arith, a, b, c, e, w, candidate)
    where
      plain : (z : ℤ) → z +ℤ neg_ℤ (pos 0) ≡ z
      plain z = ℤ_ring.add-zero z

  entry_bound : (i j : ℕ) → i < n → j < n → nat_abs (shifted_entry D p rows i j) ≤ base n
  entry_bound i j l h =
      let w : greatest_sum n rows ≤ limit n = ready.within in
      let e = at_most_greatest n (sum_of_column D rows) j h in
      let g = entry_in_sum D rows i j (subst (λ m. i < m) (sym ready.count) l) in
      let s = nat_abs-add (whole_number D (entry (row_at rows i) j))
      (neg_ℤ (cond (eqb i j) p (pos 0))) in
      let q = at_most (eqb i j) in
      omega (arith, w, e, g, s, q, candidate)
    where
      at_most : (b : Bool) → nat_abs (neg_ℤ (cond b p (pos 0))) ≤ nat_abs p
      at_most true = let e = nat_abs-neg_ℤ p in omega (arith, e)
      at_most false = omega arith

  abbrev Within : ℕ → List (List ℤ) → Type 0
  Within m xs = Each (λ r. Each (λ x. nat_abs x ≤ m) r) xs

  pub power_within : (k : ℕ) → Within (base n ^ suc k) (power_rows D p rows k)
  power_within zero =
      subst (λ m. Within m (shifted_rows D p rows)) (sym (N.pow-suc (base n) 0
      ∙ ap (λ x. x * base n) (N.pow-zero (base n)) ∙ N.one-mul (base n)))
      (each_over (λ r. Each (λ x. nat_abs x ≤ base n) r) (λ i. shifted_row D p rows i) (length rows)
      (λ i l. each_over (λ x. nat_abs x ≤ base n) (λ j. shifted_entry D p rows i j) (length rows)
      (λ j h. entry_bound i j (subst (λ m. i < m) ready.count l) (subst (λ m. j < m) ready.count
      h))))
  power_within (suc k) =
      each-map (λ r. Each (λ x. nat_abs x ≤ base n ^ suc (suc k)) r)
      (times_columns (int_columns (length rows) (shifted_rows D p rows)))
      (power_rows D p rows k)
      (each_weaker (λ r. Each (λ x. nat_abs x ≤ base n ^ suc k) r)
      (λ r. Each (λ x. nat_abs x ≤ base n ^ suc (suc k))
      (times_columns (int_columns (length rows) (shifted_rows D p rows)) r))
      (λ r h. each-map (λ x. nat_abs x ≤ base n ^ suc (suc k)) (int_dot r)
      (int_columns (length rows) (shifted_rows D p rows))
      (each_over (λ c. nat_abs (int_dot r c) ≤ base n ^ suc (suc k))
      (λ j. int_column j (shifted_rows D p rows)) (length rows)
      (λ j l.
      let a = dot_bound (base n ^ suc k) r (int_column j (shifted_rows D p rows)) h in
      let b = N.mul-le-mul_left (base n ^ suc k)
      (column_bound j (subst (λ m. j < m) ready.count l)) in
      let e = N.pow-suc (base n) (suc k) in
      omega (arith, a, b, e))))
      (power_rows D p rows k) (power_within k))

-- ---- what fits
base_power : (n k : ℕ) → n ≤ 12 → k ≤ n → base n ^ k < 2 ^ 127
base_power n k l h = go (leb n 8) refl
  where
    within : (b m : ℕ) → 0 < b → k ≤ m → b ^ m < 2 ^ 127 → b ^ k < 2 ^ 127
    within b m some g f = N.lt_of_le_of_lt (pow-le-pow_right some g) f

    go : (b : Bool) → leb n 8 ≡ b → base n ^ k < 2 ^ 127
    go true e = subst (λ b. (2 * cond b 4096 512) ^ k < 2 ^ 127) (sym e)
        (within 8192 8 (lit< tt) (let q : n ≤ 8 = leb_yes (subst T (sym e) tt) in omega (arith, q))
        (lit< tt))
    go false e = subst (λ b. (2 * cond b 4096 512) ^ k < 2 ^ 127) (sym e)
        (within 1024 12 (lit< tt) (omega arith) (lit< tt))

-- each row of the power k with each column
pub fits_next : (n : ℕ) (p : ℤ) (rows : List (List Fraction)) → IsReady n rows (denominator rows)
    → nat_abs p ≤ limit n → (k : ℕ) → suc k < n
    → Each (λ r.
    Each (λ c. FitsProduct r c) (int_columns (length rows) (shifted_rows (denominator rows) p
    rows)))
    (power_rows (denominator rows) p rows k)
fits_next n p rows ready c k l =
    each_weaker (λ r. Each (λ x. nat_abs x ≤ base n ^ suc k) r) _
    (λ r h. each_over (λ column. FitsProduct r column)
    (λ j. int_column j (shifted_rows (denominator rows) p rows)) (length rows)
    (λ j m. record {
      most = base n ^ suc k;
      within = h;
      small = (let b = N.mul-le-mul_left (base n ^ suc k) (column_bound n p rows ready c j
          (subst (λ m. j < m) ready.count m)) in let e = N.pow-suc (base n) (suc k) in let q =
          base_power n (suc (suc k)) ready.few l in
          N.lt_of_le_of_lt b (subst (λ x. x < 2 ^ 127) e q));
    }))
    (power_rows (denominator rows) p rows k) (power_within n p rows ready c k)
