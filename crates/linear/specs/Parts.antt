-- The parts of adding a row, and what a part's refusal tells.
--   IsPastLess row c other      the weight of row less c times other is past
--   IsPastScaled row c          the weight of c times an entry of row is past
--   IsFresh rows row c h        what rows leave of row leads in the column c, and is h when divided by its entry there
--   IsPastFresh rows row        the weight of what rows leave of row, or of that division, is past
--   clear_column c h rows            each row less its entry in the column c times h
--   place c rows                the first place of a row that leads behind the column c
--   IsAdded rows row more       more are rows, cleared by what they leave of row, divided, and that in its place
--   IsPastClear row c h         the weight of row less its entry in the column c times h is past
--   is_free j rows              no row leads in the column j
--   kernel_entry rows j i       the i-th entry of the kernel's vector of the column j;  kernel_row rows j k m: m entries from the k-th on
use Rattle.std.specs.Prelude.{◌≡◌, ◌<◌, ◌⊎◌, ℕ, zero, suc, Bool, true, List, [], ◌∷◌, ◌&&◌, not, insert, length, cond, eqb, ltb}
use Rattle.algebra.specs.In.{In}
use Rattle.algebra.specs.Fraction.{Fraction, ℚ, fraction_size}
use Rattle.algebra.specs.Size.{sum_size, product_size, times_size, quotient_size, IsPast}
use Rattle.vectors.specs.Adding.{row_size, reduced_size, less, entry, lead, reduce_row, quotient}

abbrev pub IsPastLess : List Fraction → Fraction → List Fraction → Type 0
IsPastLess row c other =
    IsPast (sum_size (row_size row) (times_size (row_size other) (fraction_size c)))

pub record IsPastScaled (row : List Fraction) (c : Fraction) : Type 0 where
  pub number : Fraction
  pub within : In number row
  pub past : IsPast (fraction_size (ℚ.mul number c))

pub record IsFresh (rows : List (List Fraction)) (row : List Fraction) (c : ℕ)
    (h : List Fraction) : Type 0 where
  pub column : c ≡ lead (reduce_row rows row)
  pub within : c < length row
  pub is : h ≡ quotient (reduce_row rows row)

abbrev pub IsPastFresh : List (List Fraction) → List Fraction → Type 0
IsPastFresh rows row =
    IsPast (reduced_size row rows (row_size row))
    ⊎ IsPast (quotient_size (row_size (reduce_row rows row))
    (fraction_size (entry (reduce_row rows row) (lead (reduce_row rows row)))))

abbrev pub clear_column : ℕ → List Fraction → List (List Fraction) → List (List Fraction)
clear_column c h [] = []
clear_column c h (e ∷ rows) = less e (entry e c) h ∷ clear_column c h rows

-- the first place of a row that leads behind the column
abbrev pub place : ℕ → List (List Fraction) → ℕ
place c [] = 0
place c (e ∷ rows) = cond (ltb c (lead e)) 0 (suc (place c rows))

pub record IsAdded (rows : List (List Fraction)) (row : List Fraction)
    (more : List (List Fraction)) : Type 0 where
  pub within : lead (reduce_row rows row) < length row
  pub is : more ≡ insert (clear_column (lead (reduce_row rows row)) (quotient (reduce_row rows row))
      rows)
      (place (lead (reduce_row rows row)) rows) (quotient (reduce_row rows row))

abbrev pub IsPastClear : List Fraction → ℕ → List Fraction → Type 0
IsPastClear row c h =
    IsPast (sum_size (row_size row) (product_size (row_size h) (fraction_size (entry row c))))

-- whether no row leads in the column
abbrev pub is_free : ℕ → List (List Fraction) → Bool
is_free j [] = true
is_free j (e ∷ rows) = not (eqb (lead e) j) && is_free j rows

-- an entry of the kernel's vector of the column j
abbrev pub kernel_entry : List (List Fraction) → ℕ → ℕ → Fraction
kernel_entry [] j i = cond (eqb i j) ℚ.one ℚ.zero
kernel_entry (e ∷ rows) j i = cond (eqb (lead e) i) (ℚ.neg (entry e j)) (kernel_entry rows j i)

-- the entries from the place k on, m of them
abbrev pub kernel_row : List (List Fraction) → ℕ → ℕ → ℕ → List Fraction
kernel_row rows j k zero = []
kernel_row rows j k (suc m) = kernel_entry rows j k ∷ kernel_row rows j (suc k) m

-- the vectors of the columns from k on, m of them, in which no row leads
abbrev pub kernel_rows : List (List Fraction) → ℕ → ℕ → ℕ → List (List Fraction)
kernel_rows rows n k zero = []
kernel_rows rows n k (suc m) = cond (is_free k rows) (kernel_row rows k 0 n ∷ kernel_rows rows n
    (suc k) m) (kernel_rows rows n (suc k) m)
