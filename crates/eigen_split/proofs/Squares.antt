-- Matrices as the code has them: one row or number more, their widths, and what fits.
use Rattle.std.proofs.Common.{◌≡◌, ℕ, zero, suc, ◌+◌, ◌-◌, ◌*◌, ◌^◌, ◌<◌, ◌≤◌, ℤ, ◌+ℤ◌, ◌*ℤ◌, List, [], ◌∷◌, ◌++◌, map, take, length, get_or, All, refl, sym, ap, ap₂, subst, ◌∙◌, arith, add-one, append_assoc, Vec, Global}
use Rattle.std.proofs.lemmas.List.{length-map, map-append}
use Rattle.std.proofs.lemmas.List.Elements.{All-nil, All-cons}
use lib.IntN.{nat_abs}
use native.Mathlib.Nat as N
use Rattle.std.proofs.lemmas.Int.{unsigned_abs-mul}
use Rattle.algebra.specs.Each.{Each}
use Rattle.algebra.proofs.Each.{each-map, each_of, each_weaker}
use Rattle.algebra.proofs.Lists.{take_one}
use Rattle.algebra.specs.Fraction.{Fraction, whole}
use Rattle.frac128.specs.FracMeaning.{fraction_of}
use Rattle.frac128.specs.declared.fraction.Frac.{Frac}
use Rattle.linear.specs.Rows.{fractions_of}
use Rattle.vectors.specs.Adding.{entry}
use Rattle.frac128.specs.declared.Whole.{Whole}
use Rattle.vectors.specs.Causes.{limit, column, numbers_to}
use Rattle.eigen_split.specs.Ints.{ints, ints_of, wholes, whole_rows, shifted_row, shifted_rows, shifted_entry, int_column, int_columns, int_dot, times_columns, power_rows, sizes, FitsProduct, IsReady}
use Rattle.eigen_split.specs.Search.{copies}
use Rattle.eigen_split.proofs.Sums.{over-more, length-over}
use Rattle.eigen_split.proofs.Kernels.{each_over}
use Rattle.eigen_split.proofs.Multiples.{fits_next, dot_bound}

-- ---- one more
pub mapped_more : {A B : Type 0} (g : A → B) (f : ℕ → B) (j : ℕ) (out : List A) {more : List A}
    (x : A)
    → map g out ≡ map f (numbers_to j) → more ≡ out ++ x ∷ [] → g x ≡ f j
    → map g more ≡ map f (numbers_to (j + 1))
mapped_more g f j out x e q h =
    ap (map g) q ∙ map-append g out (x ∷ []) ∙ ap₂ (λ a b. a ++ b ∷ []) e h ∙ sym (over-more f j)
    ∙ ap (λ k. map f (numbers_to k)) (sym (add-one j))

pub ints_more : (f : ℕ → ℤ) (j : ℕ) (out more : List Whole) (x : Whole)
    → ints out ≡ map f (numbers_to j) → more ≡ out ++ x ∷ [] → x.value ≡ f j
    → ints more ≡ map f (numbers_to (j + 1))
ints_more f j out more x e q h = mapped_more (λ (w : Whole). w.value) f j out x e q h

pub rows_more : (f : ℕ → List ℤ) (j : ℕ) (out : List (Vec Whole Global))
    {more : List (Vec Whole Global)} (v : Vec Whole Global)
    → ints_of out ≡ map f (numbers_to j) → more ≡ out ++ v ∷ [] → ints v.items ≡ f j
    → ints_of more ≡ map f (numbers_to (j + 1))
rows_more f j out {more = more} v e q h =
    mapped_more (λ (v : Vec Whole Global). ints v.items) f j out v e q h

-- ---- from lists of numbers to what the code has
pub all_rows : (P : List ℤ → Type 0) (xs : List (Vec Whole Global)) → Each P (ints_of xs)
    → All (λ v. P (ints v.items)) xs
unfolding Each
all_rows P [] h = All-nil (λ v. P (ints v.items))
all_rows P (x ∷ xs) h = All-cons (λ v. P (ints v.items)) x xs h.0 (all_rows P xs h.1)

all_widths : (m : ℕ) (xs : List (Vec Whole Global)) → Each (λ r. length r ≡ m) (ints_of xs)
    → All (λ v. length v.items ≡ m) xs
unfolding Each
all_widths m [] h = All-nil (λ v. length v.items ≡ m)
all_widths m (x ∷ xs) h = All-cons (λ v. length v.items ≡ m) x xs
    (sym (length-map x.items (λ (w : Whole). w.value)) ∙ h.0) (all_widths m xs h.1)

rows-count : (d : ℕ) (p : ℤ) (rows : List (List Fraction)) (k : ℕ) → length (power_rows d p rows k)
    ≡ length rows
rows-count d p rows zero = length-over (λ i. shifted_row d p rows i) (length rows)
rows-count d p rows (suc k) = length-map (power_rows d p rows k)
    (times_columns (int_columns (length rows) (shifted_rows d p rows))) ∙ rows-count d p rows k

rows-widths : (d : ℕ) (p : ℤ) (rows : List (List Fraction)) (k : ℕ)
    → Each (λ r. length r ≡ length rows) (power_rows d p rows k)
rows-widths d p rows zero = each_over (λ r. length r ≡ length rows) (λ i. shifted_row d p rows i)
    (length rows) (λ i l. length-over (λ j. shifted_entry d p rows i j) (length rows))
rows-widths d p rows (suc k) =
    each-map (λ r. length r ≡ length rows)
    (times_columns (int_columns (length rows) (shifted_rows d p rows))) (power_rows d p rows k)
    (each_of (λ r. length (times_columns (int_columns (length rows) (shifted_rows d p rows)) r)
    ≡ length rows)
    (λ r. length-map (int_columns (length rows) (shifted_rows d p rows)) (λ c. int_dot r c)
    ∙ length-over (λ j. int_column j (shifted_rows d p rows)) (length rows))
    (power_rows d p rows k))

module _ (d : ℕ) (p : ℤ) (rows : List (List Fraction)) (k : ℕ) (xs : List (Vec Whole Global))
    (e : ints_of xs ≡ power_rows d p rows k) where
  pub count_is : length xs ≡ length rows
  count_is = sym (length-map xs (λ (v : Vec Whole Global). ints v.items)) ∙ ap length e
      ∙ rows-count d p rows k

  pub widths_are : All (λ v. length v.items ≡ length xs) xs
  widths_are = subst (λ m. All (λ v. length v.items ≡ m) xs) (sym count_is)
      (all_widths (length rows) xs (subst (Each (λ r. length r ≡ length rows)) (sym e)
      (rows-widths d p rows k)))

pub fit_next : {n : ℕ} (d : ℕ) (p : ℤ) (rows : List (List Fraction)) (k : ℕ)
    (xs columns : List (Vec Whole Global))
    → IsReady n rows d → nat_abs p ≤ limit n → 0 < k → k < n
    → ints_of xs ≡ power_rows d p rows (k - 1)
    → ints_of columns ≡ int_columns (length rows) (shifted_rows d p rows)
    → All (λ row. All (λ column. FitsProduct (ints row.items) (ints column.items)) columns) xs
fit_next {n = n} d p rows k xs columns ready c some l e q =
    let h = fits_next n p rows (subst (IsReady n rows) ready.least ready) c (k - 1) (omega arith) in
    let f = subst
    (λ d. Each
    (λ r. Each (λ c. FitsProduct r c) (int_columns (length rows) (shifted_rows d p rows)))
    (power_rows d p rows (k - 1))) (sym ready.least) h in
    all_rows (λ r. All (λ column. FitsProduct r (ints column.items)) columns) xs
    (subst (Each (λ r. All (λ column. FitsProduct r (ints column.items)) columns)) (sym e)
    (each_weaker
    (λ r. Each (λ c. FitsProduct r c) (int_columns (length rows) (shifted_rows d p rows)))
    (λ r. All (λ column. FitsProduct r (ints column.items)) columns)
    (λ r g. all_rows (FitsProduct r) columns (subst (Each (FitsProduct r)) (sym q) g))
    (power_rows d p rows (k - 1)) f))

-- ---- the parts of a sum of products
module _ {left right l r : List Whole} {a b : Whole} (e : left ≡ a ∷ l) (q : right ≡ b ∷ r)
    (f : FitsProduct (ints left) (ints right)) where
  both : FitsProduct (a.value ∷ ints l) (b.value ∷ ints r)
  both = subst (λ xs. FitsProduct (ints xs) (b.value ∷ ints r)) e
      (subst (λ ys. FitsProduct (ints left) (ints ys))
      q f)

  spread : both.most * (nat_abs b.value + sizes (ints r)) ≡ both.most * nat_abs b.value + both.most
      * sizes (ints r)
  spread = N.mul-add both.most (nat_abs b.value) (sizes (ints r))

  pub fits_rest : FitsProduct (ints l) (ints r)
  unfolding Each
  fits_rest = record {
    most = both.most;
    within = both.within.1;
    small = (let s = both.small in let p = spread in omega (arith, s, p));
  }

  pub fits_sum : (x : ℤ) → x ≡ int_dot (ints l) (ints r) → nat_abs (a.value *ℤ b.value +ℤ x)
      < 2 ^ 127
  fits_sum x h = subst (λ x. nat_abs (a.value *ℤ b.value +ℤ x) < 2 ^ 127) (sym h)
      (N.lt_of_le_of_lt (dot_bound both.most (a.value ∷ ints l) (b.value ∷ ints r) both.within)
      both.small)

  pub fits_product : nat_abs (a.value *ℤ b.value) < 2 ^ 127
  unfolding Each
  fits_product =
      let first : nat_abs a.value * nat_abs b.value ≤ both.most * nat_abs b.value =
      N.mul-le-mul_right (nat_abs b.value) both.within.0 in
      let m = unsigned_abs-mul a.value b.value in
      let s = both.small in
      let p = spread in
      omega (arith, first, m, s, p)

-- ---- loops over rows
pub product_more : (columns : List (List ℤ)) (xs out more : List (Vec Whole Global)) (k : ℕ)
    (x v : Vec Whole Global) → k < length xs → x ≡ get_or xs k x
    → ints_of out ≡ map (times_columns columns) (ints_of (take k xs)) → more ≡ out ++ v ∷ []
    → ints v.items ≡ times_columns columns (ints x.items)
    → ints_of more ≡ map (times_columns columns) (ints_of (take (k + 1) xs))
product_more columns xs out more k x v l e h q p =
    ap ints_of q ∙ map-append (λ (v : Vec Whole Global). ints v.items) out (v ∷ [])
    ∙ ap₂ (λ a b. a ++ b ∷ []) h p
    ∙ sym (map-append (times_columns columns) (ints_of (take k xs)) (ints x.items ∷ []))
    ∙ ap (map (times_columns columns))
    (sym (map-append (λ (v : Vec Whole Global). ints v.items) (take k xs) (x ∷ []))
    ∙ ap ints_of (sym (take_one xs k x l e)))

entry_at : (row : List Whole) (j : ℕ) (w : Whole) → j < length row → w ≡ get_or row j w
    → entry (wholes (ints row)) j ≡ whole w.value
entry_at [] j w l e = absurd (omega arith)
entry_at (x ∷ row) zero w l e = ap (λ (w : Whole). whole w.value) (sym e)
entry_at (x ∷ row) (suc j) w l e = entry_at row j w (omega arith) e

pub column_more : (j : ℕ) (xs : List (Vec Whole Global)) (out more : List Frac) (k : ℕ)
    (x : Vec Whole Global) (w : Whole) (f : Frac) → k < length xs → x ≡ get_or xs k x
    → j < length x.items → w ≡ get_or x.items j w → fraction_of f ≡ whole w.value
    → fractions_of out ≡ column j (whole_rows (ints_of (take k xs))) → more ≡ out ++ f ∷ []
    → fractions_of more ≡ column j (whole_rows (ints_of (take (k + 1) xs)))
column_more j xs out more k x w f l e m g p h q =
    ap fractions_of q ∙ map-append fraction_of out (f ∷ []) ∙ ap₂ (λ a b. a ++ b ∷ []) h (p
    ∙ sym (entry_at x.items j w m g))
    ∙ sym (map-append (λ row. entry row j) (whole_rows (ints_of (take k xs))) (wholes (ints x.items)
    ∷ []))
    ∙ ap (column j) (sym (map-append wholes (ints_of (take k xs)) (ints x.items ∷ []))
    ∙ ap whole_rows (sym (map-append (λ (v : Vec Whole Global). ints v.items) (take k xs)
    (x ∷ [])) ∙ ap ints_of (sym (take_one xs k x l e))))

pub repeated_more : (out more : List Frac) (old : List Fraction) (k : ℕ) (v : Frac)
    → fractions_of out ≡ old ++ copies k (fraction_of v) → more ≡ out ++ v ∷ []
    → fractions_of more ≡ old ++ copies (k + 1) (fraction_of v)
repeated_more out more old k v h q =
    ap fractions_of q ∙ map-append fraction_of out (v ∷ []) ∙ ap (λ l. l ++ fraction_of v ∷ []) h
    ∙ append_assoc old (copies k (fraction_of v)) (fraction_of v ∷ [])
    ∙ ap (λ l. old ++ l) (last k (fraction_of v)
    ∙ ap (λ m. copies m (fraction_of v)) (sym (add-one k)))
  where
    last : (k : ℕ) (c : Fraction) → copies k c ++ c ∷ [] ≡ c ∷ copies k c
    last zero c = refl
    last (suc k) c = ap (◌∷◌ c) (last k c)
