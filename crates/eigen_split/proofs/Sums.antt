-- Sums of n numbers, and lists over the numbers below n.
--   total-diagonal             of a diagonal
--   get-numbers, row_at-numbers     an entry of a list over the numbers below n
--   dot-total, entries-column, row_at-map     entries of matrices as lists
use Rattle.std.proofs.Common.{◌≡◌, ℕ, zero, suc, ◌<◌, ℤ, List, [], ◌∷◌, ◌++◌, map, length, get_or, refl, sym, ap, ap₂, ◌∙◌, arith}
use Rattle.std.proofs.lemmas.List.{length-map}
use Rattle.std.proofs.lemmas.Simd.{map-map}
use Rattle.algebra.proofs.RingLaws as L
use Rattle.algebra.specs.Fraction.{Fraction, ℚ, whole}
use Rattle.algebra.proofs.Fractions.{ℚ_ring, ℚ_field}
use Rattle.vectors.specs.Echelon.{total}
use Rattle.vectors.specs.Lists.{entries}
use Rattle.vectors.specs.Adding.{entry}
use Rattle.vectors.specs.Causes.{row_at, dot, column, numbers_to, on_diagonal}
use Rattle.vectors.proofs.EchelonKernel as EK

abbrev pub Σ_to : ℕ → (ℕ → Fraction) → Fraction
Σ_to n f = total ℚ_field n f

pub total-diagonal : (p : ℤ) (n : ℕ) (y : ℕ → Fraction) (j : ℕ) → j < n
    → Σ_to n (λ i. ℚ.mul (on_diagonal p i j) (y i)) ≡ ℚ.mul (whole p) (y j)
total-diagonal p zero y j l = absurd (omega arith)
total-diagonal p (suc n) y zero l =
    ap (ℚ.add (ℚ.mul (whole p) (y 0))) (EK.total-none ℚ_field n (λ i. ℚ.mul ℚ.zero (y (suc i)))
    (λ i h. L.zero-mul ℚ_ring (y (suc i))))
    ∙ ℚ_ring.add-zero (ℚ.mul (whole p) (y 0))
total-diagonal p (suc n) y (suc j) l =
    ap₂ ℚ.add (L.zero-mul ℚ_ring (y 0)) (total-diagonal p n (λ i. y (suc i)) j (omega arith))
    ∙ L.zero-add ℚ_ring (ℚ.mul (whole p) (y (suc j)))

-- ---- lists over the numbers below n
pub length-numbers : (n : ℕ) → length (numbers_to n) ≡ n
length-numbers zero = refl
length-numbers (suc n) = ap suc (length-map (numbers_to n) (λ i. suc i) ∙ length-numbers n)

pub length-over : {A : Type 0} (f : ℕ → A) (n : ℕ) → length (map f (numbers_to n)) ≡ n
length-over f n = length-map (numbers_to n) f ∙ length-numbers n

pub over-suc : {A : Type 0} (f : ℕ → A) (n : ℕ) → map f (numbers_to (suc n)) ≡ f 0
    ∷ map (λ i. f (suc i)) (numbers_to n)
over-suc f n = ap (◌∷◌ (f 0)) (map-map f (λ i. suc i) (numbers_to n))

pub get-over : {A : Type 0} (f : ℕ → A) (d : A) (n i : ℕ) → i < n
    → get_or (map f (numbers_to n)) i d ≡ f i
get-over f d zero i l = absurd (omega arith)
get-over f d (suc n) zero l = refl
get-over f d (suc n) (suc i) l = ap (λ xs. get_or xs (suc i) d) (over-suc f n)
    ∙ get-over (λ i. f (suc i)) d n i (omega arith)

pub row_at-over : (f : ℕ → List Fraction) (n i : ℕ) → i < n → row_at (map f (numbers_to n)) i ≡ f i
row_at-over f zero i l = absurd (omega arith)
row_at-over f (suc n) zero l = refl
row_at-over f (suc n) (suc i) l = ap (λ xs. row_at xs (suc i)) (over-suc f n)
    ∙ row_at-over (λ i. f (suc i)) n i (omega arith)

pub over_same : {A : Type 0} (f g : ℕ → A) (n : ℕ) → ((i : ℕ) → i < n → f i ≡ g i)
    → map f (numbers_to n) ≡ map g (numbers_to n)
over_same f g zero h = refl
over_same f g (suc n) h =
    over-suc f n ∙ ap₂ ◌∷◌ (h 0 (omega arith)) (over_same (λ i. f (suc i)) (λ i. g (suc i)) n
    (λ i l. h (suc i) (omega arith))) ∙ sym (over-suc g n)

-- one more
pub over-more : {A : Type 0} (f : ℕ → A) (n : ℕ) → map f (numbers_to (suc n)) ≡ map f (numbers_to n)
    ++ f n ∷ []
over-more f zero = refl
over-more f (suc n) = over-suc f (suc n) ∙ ap (◌∷◌ (f 0)) (over-more (λ i. f (suc i)) n)
    ∙ ap (λ xs. xs ++ f (suc n) ∷ []) (sym (over-suc f n))

-- ---- matrices as lists of rows
pub row_at-map : (h : List Fraction → List Fraction) (xs : List (List Fraction)) (i : ℕ)
    → i < length xs → row_at (map h xs) i ≡ h (row_at xs i)
row_at-map h [] i l = absurd (omega arith)
row_at-map h (x ∷ xs) zero l = refl
row_at-map h (x ∷ xs) (suc i) l = row_at-map h xs i (omega arith)

pub entries-column : (j : ℕ) (rows : List (List Fraction)) (i : ℕ)
    → entries ℚ_field (column j rows) i ≡ entry (row_at rows i) j
entries-column j [] i = refl
entries-column j (r ∷ rows) zero = refl
entries-column j (r ∷ rows) (suc i) = entries-column j rows i

pub dot-total : (n : ℕ) (xs ys : List Fraction) → length xs ≡ n → length ys ≡ n
    → dot xs ys ≡ Σ_to n (λ k. ℚ.mul (entry xs k) (entries ℚ_field ys k))
dot-total zero [] ys e f = refl
dot-total zero (x ∷ xs) ys e f = absurd (omega arith)
dot-total (suc n) [] ys e f = absurd (omega arith)
dot-total (suc n) (x ∷ xs) [] e f = absurd (omega arith)
dot-total (suc n) (x ∷ xs) (y ∷ ys) e f =
    ap (ℚ.add (ℚ.mul x y)) (dot-total n xs ys (omega arith) (omega arith))
