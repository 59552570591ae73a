-- How long compositions are, as the code counts it.
--   power_none                     a power without factors
--   power_next, power_long         the same of a count so far
--   power_above                    a power of more terms than the limit
--   factor_fits                    what is multiplied fits
--   lengths_none, lengths_more     a product of sums of so many terms
--   product_past                   a product with a factor, or others, above the limit;  factors_some: a factor has some terms
--   sum_none, sum_one, sum_parts, sum_past     sums over lists, by halves
use Rattle.std.proofs.Common.{◌≡◌, ◌⊎◌, inl, inr, ℕ, zero, suc, ◌+◌, ◌-◌, ◌*◌, ◌/◌, ◌^◌, ◌<◌, ◌≤◌, List, [], ◌∷◌, map, take, drop, length, refl, sym, ap, ap₂, subst, ◌∙◌, arith, Option}
use native.Mathlib.Nat as N
use Rattle.std.specs.List.{sum_by}
use Rattle.std.proofs.lemmas.List.Sums.{sum_by-append, sum_by-cons}
use Rattle.std.proofs.Math.Nat.{div-one, le-div_iff_mul-le}
use Rattle.algebra.specs.Each.{Each}
use Rattle.algebra.proofs.RatioLaws.{mul-pos}
use Rattle.polynomials.specs.Terms.{Terms}
use Rattle.expansion.specs.Counts.{most_terms, factor_terms, IsCount}
use Rattle.expansion.specs.Lengths.{power_length, product_length}
use Rattle.expansion.proofs.Counting.{most_is, count_of, parts, at_least_one, at_least, at_least_right}

-- ---- powers
pub power_none : (n : ℕ) → power_length n 0 ≡ 1
unfolding power_length
power_none n = refl

power_step : (n e : ℕ) → power_length n (suc e) ≡ power_length n e * (n + e) / (e + 1)
unfolding power_length
power_step n e = refl

power_more : (n e : ℕ) → power_length n (e + 1) ≡ power_length n e * (n + e) / (e + 1)
power_more n e = let o : e + 1 ≡ suc e = omega arith in ap (power_length n) o ∙ power_step n e

grown : (c n e : ℕ) → 0 < n → c ≤ c * (n + e) / (e + 1)
grown c n e h =
    (le-div_iff_mul-le (let o : zero < e + 1 = omega arith in o)).1
    (N.mul-le-mul_left c (let o : e + 1 ≤ n + e = omega (arith, h) in o))

power_later : (n e k : ℕ) → 0 < n → power_length n e ≤ power_length n (e + k)
power_later n e zero h = let o : e + 0 ≡ e = omega arith in N.le_of_eq (sym (ap (power_length n) o))
power_later n e (suc k) h =
    let before = power_later n e k h in
    let more = power_more n (e + k) in
    let step = grown (power_length n (e + k)) n (e + k) h in
    let o : e + suc k ≡ e + k + 1 = omega arith in
    let last = ap (power_length n) o in omega (arith, before, more, step, last)

power_past : (n e f : ℕ) → 0 < n → e ≤ f → most_terms < power_length n e
    → most_terms < power_length n f
power_past n e f h l past =
    let o : e + (f - e) ≡ f = omega (arith, l) in
    let later = power_later n e (f - e) h in
    let last = ap (power_length n) o in omega (arith, past, later, last)

power_some : (n e : ℕ) → 0 < n → 0 < power_length n e
power_some n e h =
    let o : 0 + e ≡ e = omega arith in
    let later = power_later n 0 e h in
    let last = ap (power_length n) o in
    let first = power_none n in omega (arith, later, last, first)

-- what is next, where the count so far is at most the limit, and what it says where it isn't
pub power_next : (n e found next : ℕ) → found ≡ power_length n e
    → next ≡ found * (n + e) / (e + 1) → next ≡ power_length n (e + 1)
power_next n e found next is f = f ∙ ap (λ x. x * (n + e) / (e + 1)) is ∙ sym (power_more n e)

pub power_long : (n e times found : ℕ) → 0 < n → e < times → found ≡ power_length n e
    → most_terms < found * (n + e) / (e + 1) → most_terms < power_length n times
power_long n e times found h l is past =
    power_past n (e + 1) times h (let o : e + 1 ≤ times = omega (arith, l) in o)
    (subst (λ k. most_terms < k)
    (power_next n e found (found * (n + e) / (e + 1)) is refl) past)

-- ---- what is multiplied fits
pub factor_fits : (a b : ℕ) → a ≤ most_terms → b ≤ most_terms + 65536 → a * b < 2 ^ 64
factor_fits a b h l =
    let e = most_is in
    let x : a * b ≤ 1048576 * 1114112 = N.mul-le-mul (let o : a ≤ 1048576 = omega (arith, h, e) in
    o)
    (let o : b ≤ 1114112 = omega (arith, l, e) in o) in
    omega (arith, x)

power_one : (n : ℕ) → power_length n 1 ≡ n
unfolding power_length
power_one n = ap (λ x. x / 1) (let o : 1 * (n + 0) ≡ n = omega arith in o) ∙ div-one n

pub power_above : (n e : ℕ) → 0 < n → ¬ (e ≡ 0) → most_terms < n → most_terms < power_length n e
power_above n zero h some past = absurd (some refl)
power_above n (suc e) h some past =
    power_past n 1 (suc e) h (let o : 1 ≤ suc e = omega arith in o)
    (subst (λ k. most_terms < k) (sym (power_one n)) past)

-- ---- products of sums
pub lengths_none : (ns e : List ℕ) → (length ns ≡ 0) ⊎ (length e ≡ 0) → 1 ≡ product_length ns e
unfolding product_length
lengths_none [] e h = refl
lengths_none (n ∷ ns) [] h = refl
lengths_none (n ∷ ns) (k ∷ e) (inl h) = absurd (omega (arith, h))
lengths_none (n ∷ ns) (k ∷ e) (inr h) = absurd (omega (arith, h))

lengths-cons : (n : ℕ) (ns : List ℕ) (k : ℕ) (e : List ℕ)
    → product_length (n ∷ ns) (k ∷ e) ≡ power_length n k * product_length ns e
unfolding product_length
lengths-cons n ns k e = refl

pub lengths_more : (n : ℕ) (ns all : List ℕ) (k : ℕ) (e whole : List ℕ) (rest power : ℕ)
    (o : Option ℕ) → all ≡ n ∷ ns → whole ≡ k ∷ e → rest ≡ product_length ns e
    → power ≡ power_length n k → IsCount (power * rest) o → IsCount (product_length all whole) o
lengths_more n ns all k e whole rest power o f g r p h =
    count_of (power * rest) (product_length all whole) o
    (ap₂ ◌*◌ p r ∙ sym (lengths-cons n ns k e) ∙ sym (ap₂ product_length f g)) h

-- ---- products of sums, each of some terms
products_some : (ns e : List ℕ) → Each (λ n. 0 < n) ns → 0 < product_length ns e
unfolding product_length Each
products_some [] e h = omega arith
products_some (n ∷ ns) [] h = omega arith
products_some (n ∷ ns) (k ∷ e) h = mul-pos (power_length n k) (product_length ns e)
    (power_some n k h.0) (products_some ns e h.1)

pub product_past : (n : ℕ) (ns all : List ℕ) (k : ℕ) (e whole : List ℕ) → all ≡ n ∷ ns
    → whole ≡ k ∷ e → Each (λ n. 0 < n) all
    → (most_terms < product_length ns e) ⊎ (most_terms < power_length n k)
    → most_terms < product_length all whole
unfolding Each
product_past n ns all k e whole f g are h =
    let some = subst (Each (λ n. 0 < n)) f are in
    let is = ap₂ product_length f g ∙ lengths-cons n ns k e in
    let left = at_least (power_length n k) (product_length ns e) (products_some ns e some.1) in
    let right = at_least_right (power_length n k) (product_length ns e) (power_some n k some.0) in
    elim h [
      | inl past ↦ omega (arith, is, right, past)
      | inr past ↦ omega (arith, is, left, past)
    ]

pub factors_some : {A : Type 0} (ps : List (Terms A)) → Each (λ n. 0 < n) (map factor_terms ps)
unfolding Each
factors_some [] = tt
factors_some (p ∷ ps) = (at_least_one p, factors_some ps)

-- ---- sums over what the items of a list are seen as, by its parts
module _ {X Y : Type 0} (f : X → ℕ) (see : Y → X) where
  pub sum_none : (ys : List Y) → ys ≡ [] → sum_by f (map see ys) ≡ 0
  sum_none ys e = ap (λ zs. sum_by f (map see zs)) e

  pub sum_one : (y : Y) (ys : List Y) → ys ≡ y ∷ [] → f (see y) ≡ sum_by f (map see ys)
  sum_one y ys e =
      let one = sum_by-cons f (see y) [] in
      let is = ap (λ zs. sum_by f (map see zs)) e in
      let none = sum_none [] refl in
      omega (arith, one, is, none)

  module _ (ys front back : List Y) (n : ℕ) (e : front ≡ take n ys) (h : back ≡ drop n ys) where
    whole : sum_by f (map see front) + sum_by f (map see back) ≡ sum_by f (map see ys)
    whole = sym (sum_by-append f (map see front) (map see back))
        ∙ ap (sum_by f) (parts see ys front back n e h)

    pub sum_past : (most_terms < sum_by f (map see front)) ⊎ (most_terms < sum_by f (map see back))
        → most_terms < sum_by f (map see ys)
    sum_past l = let is = whole in
        elim l [ inl past ↦ omega (arith, is, past) | inr past ↦ omega (arith, is, past) ]

    pub sum_parts : (left right : ℕ) (o : Option ℕ) → left ≡ sum_by f (map see front)
        → right ≡ sum_by f (map see back) → IsCount (left + right) o
        → IsCount (sum_by f (map see ys)) o
    sum_parts left right o l r c =
        count_of (left + right) (sum_by f (map see ys)) o (ap₂ ◌+◌ l r ∙ whole) c
