-- Where a matrix of whole numbers has an eigenvalue that is a fraction, it is a whole number, and no column sum is below all of it.
--   times_int y rows     y times a matrix of whole numbers
--   nat_abs-add          the absolute value of a sum is at most the sum of the absolute values
use Rattle.std.proofs.Common.{◌≡◌, ◌≢◌, inl, inr, ℕ, zero, suc, ◌+◌, ◌*◌, ◌<◌, ◌≤◌, ℤ, pos, negsuc, ◌+ℤ◌, ◌*ℤ◌, List, [], ◌∷◌, length, refl, sym, ap, subst, ◌∙◌, arith}
use mathlib.Core.Path.{fun_ext}
use Prim.Native.Nat.{◌∣◌}
use native.Mathlib.Nat as N
use lib.IntN.{nat_abs}
use Rattle.std.proofs.lemmas.Bool.{cases_lt}
use Rattle.std.proofs.lemmas.Int.{unsigned_abs-mul, ints}
use Rattle.algebra.specs.Gcd.{gcd}
use Rattle.algebra.specs.Ratio.{exact}
use Rattle.algebra.proofs.GcdLaws.{dvd_from_coprime}
use Rattle.algebra.proofs.RatioLaws.{exact_whole, cancel}
use Rattle.algebra.proofs.RingLaws as L
use Rattle.algebra.proofs.IntRing.{ℤ_ring}
use Rattle.vectors.specs.Sequences.{sequences, times_matrix, column_sum}
use Rattle.vectors.proofs.Combinations as C

abbrev pub times_int : (ℕ → ℤ) → List (ℕ → ℤ) → ℕ → ℤ
times_int y rows = times_matrix ℤ_ring y rows

pub nat_abs-zero : (z : ℤ) → nat_abs z ≡ 0 → z ≡ pos 0
nat_abs-zero (pos n) e = ap pos e
nat_abs-zero (negsuc n) e = absurd (omega arith)

-- the entries are divisible by b, and what is left is an eigenvector too
record Divided (rows : List (ℕ → ℤ)) (a : ℤ) (b : ℕ) (y : ℕ → ℤ) : Type 0 where
  less : ℕ → ℤ
  whole : (j : ℕ) → less j *ℤ pos b ≡ y j
  again : (j : ℕ) → pos b *ℤ times_int less rows j ≡ a *ℤ less j

divided : (rows : List (ℕ → ℤ)) (a : ℤ) (b : ℕ) (y : ℕ → ℤ) → gcd (nat_abs a) b ≡ 1 → 0 < b
    → ((j : ℕ) → pos b *ℤ times_int y rows j ≡ a *ℤ y j) → Divided rows a b y
divided rows a b y coprime some eq =
    let divides : (j : ℕ) → b ∣ nat_abs (y j) * nat_abs a =
    λ j. subst (λ x. b ∣ x) (sym (unsigned_abs-mul (pos b) (times_int y rows j)) ∙ ap nat_abs (eq j)
    ∙ unsigned_abs-mul a (y j) ∙ N.mul_comm (nat_abs a) (nat_abs (y j)))
    (N.dvd-mul_right b (nat_abs (times_int y rows j))) in
    let less : ℕ → ℤ = λ j. exact (y j) b in
    let whole : (j : ℕ) → less j *ℤ pos b ≡ y j =
    λ j. exact_whole (y j) b (dvd_from_coprime (nat_abs a) b (nat_abs (y j)) coprime
    (divides j)) in
    let scaled : times_int y rows ≡ (λ j. pos b *ℤ times_int less rows j) =
    ap (λ v. times_int v rows) (fun_ext (λ j. sym (whole j) ∙ ℤ_ring.mul_comm (less j) (pos b)))
    ∙ C.combine-scale (sequences ℤ_ring ℕ) (pos b) less rows in
    record {
      less = less;
      whole = whole;
      again = λ j. cancel b (pos b *ℤ times_int less rows j) (a *ℤ less j) some
          (ℤ_ring.mul_comm (pos b *ℤ times_int less rows j) (pos b)
          ∙ ap (λ v. pos b *ℤ v j) (sym scaled) ∙ eq j ∙ ap (λ z. a *ℤ z) (sym (whole j))
          ∙ sym (ℤ_ring.mul_assoc a (less j) (pos b)));
    }

-- so each entry falls for ever
descent : (m : ℕ) (rows : List (ℕ → ℤ)) (a : ℤ) (b : ℕ) (y : ℕ → ℤ) → gcd (nat_abs a) b ≡ 1 → 1 < b
    → ((j : ℕ) → pos b *ℤ times_int y rows j ≡ a *ℤ y j) → (j : ℕ) → nat_abs (y j) < m → y j ≡ pos 0
descent zero rows a b y coprime big eq j l = absurd (omega arith)
descent (suc m) rows a b y coprime big eq j l =
    let d : Divided rows a b y = divided rows a b y coprime (omega arith) eq in
    let w : nat_abs (d.less j) * b ≡ nat_abs (y j) = sym (unsigned_abs-mul (d.less j) (pos b))
    ∙ ap nat_abs (d.whole j) in
    let zero_if : d.less j ≡ pos 0 → y j ≡ pos 0 = λ e. sym (d.whole j) ∙ ap (λ z. z *ℤ pos b) e
    ∙ L.zero-mul ℤ_ring (pos b) in
    elim (cases_lt 0 (nat_abs (d.less j))) [
      | inl s ↦ zero_if (descent m rows a b d.less coprime big d.again j
          (let more : nat_abs (d.less j) * 2 ≤ nat_abs (d.less j) * b =
          N.mul-le-mul_left (nat_abs (d.less j)) (let two : 2 ≤ b = omega arith in two) in
          omega arith))
      | inr z ↦ zero_if (nat_abs-zero (d.less j) (omega arith))
    ]

-- a / b is an eigenvalue only if b is 1
pub whole_root : (rows : List (ℕ → ℤ)) (a : ℤ) (b : ℕ) (y : ℕ → ℤ) → gcd (nat_abs a) b ≡ 1 → 0 < b
    → ((j : ℕ) → pos b *ℤ times_int y rows j ≡ a *ℤ y j) → (j : ℕ) → y j ≢ pos 0 → b ≡ 1
whole_root rows a b y coprime some eq j ne =
    elim (cases_lt 1 b) [
      | inl big
          ↦ absurd (ne (descent (suc (nat_abs (y j))) rows a b y coprime big eq j (omega arith)))
      | inr small ↦ omega arith
    ]

-- ---- the bound
pub nat_abs-add : (a b : ℤ) → nat_abs (a +ℤ b) ≤ nat_abs a + nat_abs b
nat_abs-add a b = grind (arith, ints)

pub times_bound : (rows : List (ℕ → ℤ)) (y : ℕ → ℤ) (m : ℕ)
    → ((i : ℕ) → i < length rows → nat_abs (y i) ≤ m) → (j : ℕ) → nat_abs (times_int y rows j) ≤ m
    * column_sum rows j
times_bound [] y m h j = omega arith
times_bound (r ∷ rows) y m h j =
    let rest : nat_abs (times_int (λ i. y (suc i)) rows j) ≤ m * column_sum rows j =
    times_bound rows (λ i. y (suc i)) m (λ i l. h (suc i) (omega arith)) j in
    let first : nat_abs (y 0) * nat_abs (r j) ≤ m * nat_abs (r j) =
    N.mul-le-mul_right (nat_abs (r j)) (h 0 (omega arith)) in
    let both = nat_abs-add (y 0 *ℤ r j) (times_int (λ i. y (suc i)) rows j) in
    let product = unsigned_abs-mul (y 0) (r j) in
    let spread : m * (nat_abs (r j) + column_sum rows j) ≡ m * nat_abs (r j) + m * column_sum rows
    j = omega arith in
    omega (arith, both, product)

-- the greatest of the first n
record Greatest (n : ℕ) (f : ℕ → ℕ) : Type 0 where
  place : ℕ
  within : place < n
  above : (i : ℕ) → i < n → f i ≤ f place

greatest : (n : ℕ) (f : ℕ → ℕ) → Greatest (suc n) f
greatest zero f = record {
  place = 0;
  within = omega arith;
  above = λ i l. subst (λ k. f i ≤ f k) (let z : i ≡ 0 = omega arith in z) (omega arith);
}
greatest (suc n) f =
    let g : Greatest (suc n) f = greatest n f in
    elim (cases_lt (f g.place) (f (suc n))) [
      | inl l ↦ record {
        place = suc n;
        within = omega arith;
        above = λ i k. elim (cases_lt i (suc n)) [
          | inl s ↦ (let a = g.above i s in omega arith)
          | inr s ↦ subst (λ k. f i ≤ f k) (let z : i ≡ suc n = omega arith in z) (omega arith)
        ];
      }
      | inr l ↦ record {
        place = g.place;
        within = (let w : g.place < suc n = g.within in omega arith);
        above = λ i k. elim (cases_lt i (suc n)) [
          | inl s ↦ g.above i s
          | inr s ↦ (let z : i ≡ suc n = omega arith in subst (λ k. f k ≤ f g.place) (sym z) l)
        ];
      }
    ]

-- a whole eigenvalue is at most a column sum
pub record UnderColumn (rows : List (ℕ → ℤ)) (p : ℤ) : Type 0 where
  pub column : ℕ
  pub within : column < length rows
  pub under : nat_abs p ≤ column_sum rows column

pub bounded_root : (rows : List (ℕ → ℤ)) (p : ℤ) (y : ℕ → ℤ)
    → ((j : ℕ) → j < length rows → times_int y rows j ≡ p *ℤ y j) → (j : ℕ) → j < length rows
    → y j ≢ pos 0 → UnderColumn rows p
bounded_root rows p y eq j l ne =
    elim (length rows) as (λ n. length rows ≡ n → UnderColumn rows p) [
      | zero ↦ λ e. absurd (omega arith)
      | suc n ↦ λ e.
          let g : Greatest (suc n) (λ i. nat_abs (y i)) = greatest n (λ i. nat_abs (y i)) in
          let k = g.place in
          let inside : k < length rows = subst (λ m. k < m) (sym e) g.within in
          let above : (i : ℕ) → i < length rows → nat_abs (y i) ≤ nat_abs (y k) =
          λ i b. g.above i (subst (λ m. i < m) e b) in
          let some : 0 < nat_abs (y k) = (elim (cases_lt 0 (nat_abs (y k))) [
            | inl s ↦ s
            | inr z
                ↦ absurd (ne (nat_abs-zero (y j) (let a = above j l in omega arith)))
          ]) in
          let t : nat_abs p * nat_abs (y k) ≤ nat_abs (y k) * column_sum rows k =
          subst (λ x. x ≤ nat_abs (y k) * column_sum rows k) (ap nat_abs (eq k inside)
          ∙ unsigned_abs-mul p (y k)) (times_bound rows y (nat_abs (y k)) above k) in
          record {
            column = k;
            within = inside;
            under =
                N.le_of_mul-le-mul_left (subst (λ x. x ≤ nat_abs (y k) * column_sum rows k)
                (N.mul_comm (nat_abs p) (nat_abs (y k))) t) some;
          }
    ] refl
