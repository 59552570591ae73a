-- Counts up to the limit.
--   most_is                the limit as a number; beyond_sum, beyond_product: what doesn't fit in 64 bits is above it
--   count_of               an equal number has the same count
--   some_is, none_above    where there is a count, it is the number, within the limit; where there is none, the number is above the limit
--   of_zero, of_first, one_fits        no term and one are within the limit
--   at_least_one           a factor has a term at least
--   terms_none, terms_some     a factor's terms by their number
--   of_one                 a power of one
--   raised_more, raised_past, raised_all       a power, one factor after another
--   power_one, power_some  a power of what isn't 0 isn't 0
--   parts                  the images of a list that is cut in two are those of the list
use Rattle.std.proofs.Common.{◌≡◌, ◌⊎◌, inl, inr, ℕ, zero, suc, ◌+◌, ◌*◌, ◌^◌, ◌<◌, ◌≤◌, List, [], ◌∷◌, ◌++◌, map, take, drop, take-append-drop, length, refl, sym, ap, ap₂, subst, ◌∙◌, arith, Option, Some, None}
use native.Mathlib.Nat as N
use Rattle.std.proofs.lemmas.Grind.{pow_more}
use Rattle.std.proofs.lemmas.List.{map-append}
use Rattle.algebra.proofs.RatioLaws.{mul-pos}
use Rattle.polynomials.specs.Terms.{Terms}
use Rattle.expansion.specs.Counts.{most_terms, factor_terms, product_terms, composition_terms, combination_terms, IsCount}

-- ---- the limit
pub most_is : most_terms ≡ 1048576
unfolding most_terms
most_is = refl

pub beyond : (n : ℕ) → 2 ^ 64 ≤ n → most_terms < n
beyond n h = let e = most_is in omega (arith, e, h)

pub one_fits : 1 ≤ most_terms
one_fits = let e = most_is in omega (arith, e)

pub none_above : (n : ℕ) (o : Option ℕ) → IsCount n o → ((k : ℕ) → o ≡ Some k → ⊥) → most_terms < n
none_above n (Some k) h other = absurd (other k refl)
none_above n None h other = h

pub some_is : (n k : ℕ) (o : Option ℕ) → IsCount n o → o ≡ Some k → (k ≡ n) × (n ≤ most_terms)
some_is n k o h e = subst (IsCount n) e h

pub count_of : (n m : ℕ) (o : Option ℕ) → n ≡ m → IsCount n o → IsCount m o
count_of n m o e h = subst (λ k. IsCount k o) e h

pub of_zero : (n : ℕ) → n ≡ 0 → (0 ≡ n) × (n ≤ most_terms)
of_zero n e = let f = most_is in (sym e, omega (arith, e, f))

pub of_first : (n : ℕ) → 1 ≡ n → (1 ≡ n) × (n ≤ most_terms)
of_first n e = let f = one_fits in (e, omega (arith, e, f))

-- ---- a list cut in two
pub parts : {X Y : Type 0} (f : X → Y) (ts front back : List X) (n : ℕ) → front ≡ take n ts
    → back ≡ drop n ts → map f front ++ map f back ≡ map f ts
parts f ts front back n e h = sym (map-append f front back)
    ∙ ap (map f) (ap₂ ◌++◌ e h ∙ take-append-drop _ ts)

-- ---- factors
module _ {A : Type 0} where
  pub terms_none : (p : Terms A) → length p ≡ 0 → 1 ≡ factor_terms p
  unfolding factor_terms
  terms_none [] e = refl
  terms_none (t ∷ p) e = absurd (cc)

  pub terms_some : (p : Terms A) → ¬ (length p ≡ 0) → length p ≡ factor_terms p
  unfolding factor_terms
  terms_some [] e = absurd (e refl)
  terms_some (t ∷ p) e = refl

  pub at_least_one : (p : Terms A) → 0 < factor_terms p
  unfolding factor_terms
  at_least_one [] = omega arith
  at_least_one (t ∷ p) = omega arith

-- ---- powers
pub of_one : (n : ℕ) → 1 ≡ 1 ^ n
of_one zero = refl
of_one (suc n) = of_one n ∙ sym (N.mul-one (1 ^ n)) ∙ sym (N.pow-suc 1 n)

pub power_some : (by n : ℕ) → 0 < by → 0 < by ^ n
power_some by n h = let o : 1 ≤ by ^ n = N.one-le-pow n by h in omega arith

pub at_least : (x y : ℕ) → 0 < y → x ≤ x * y
at_least x y h = subst (λ z. z ≤ x * y) (N.mul-one x) (N.mul-le-mul_left x (let o : 1 ≤ y =
    omega arith in o))

pub at_least_right : (x y : ℕ) → 0 < x → y ≤ x * y
at_least_right x y h = subst (λ z. y ≤ z) (N.mul_comm y x) (at_least y x h)

pub raised_more : (by t found next : ℕ) → found ≡ by ^ t → next ≡ found * by → next ≡ by ^ (t + 1)
raised_more by t found next e f = f ∙ ap (λ x. x * by) e ∙ sym (pow_more by t)

pub raised_past : (by t found times : ℕ) → 0 < by → t < times → found ≡ by ^ t
    → most_terms < found * by → most_terms < by ^ times
raised_past by t found times h l e past =
    let is : found * by ≡ by ^ (t + 1) = raised_more by t found (found * by) e refl in
    let more : by ^ (t + 1) ≤ by ^ times = N.pow-le-pow_right h
    (let o : t + 1 ≤ times = omega arith in o) in
    omega (arith, is, more, past)

pub power_of_one : (by n : ℕ) → by ≡ 1 → (1 ≡ by ^ n) × (by ^ n ≤ most_terms)
power_of_one by n e = of_first (by ^ n) (of_one n ∙ sym (ap (λ x. x ^ n) e))

-- ---- products
module _ {A : Type 0} where
  pub products_none : (qs : List (Terms A)) (e : List ℕ) → (length qs ≡ 0) ⊎ (length e ≡ 0)
      → 1 ≡ product_terms qs e
  unfolding product_terms
  products_none [] e h = refl
  products_none (q ∷ qs) [] h = refl
  products_none (q ∷ qs) (n ∷ e) (inl h) = absurd (omega (arith, h))
  products_none (q ∷ qs) (n ∷ e) (inr h) = absurd (omega (arith, h))

  pub products_some : (qs : List (Terms A)) (e : List ℕ) → 0 < product_terms qs e
  unfolding product_terms
  products_some [] e = omega arith
  products_some (q ∷ qs) [] = omega arith
  products_some (q ∷ qs) (n ∷ e) = mul-pos (factor_terms q ^ n) (product_terms qs e)
      (power_some (factor_terms q) n (at_least_one q)) (products_some qs e)

  pub products-cons : (q : Terms A) (qs : List (Terms A)) (n : ℕ) (e : List ℕ)
      → product_terms (q ∷ qs) (n ∷ e) ≡ factor_terms q ^ n * product_terms qs e
  unfolding product_terms
  products-cons q qs n e = refl

  pub products_past_rest : (q : Terms A) (qs : List (Terms A)) (n : ℕ) (e : List ℕ)
      → most_terms < product_terms qs e → most_terms < product_terms (q ∷ qs) (n ∷ e)
  products_past_rest q qs n e h =
      let is = products-cons q qs n e in
      let more = at_least_right (factor_terms q ^ n) (product_terms qs e)
      (power_some (factor_terms q) n (at_least_one q)) in
      omega (arith, is, more, h)

  pub products_past_power : (q : Terms A) (qs : List (Terms A)) (n : ℕ) (e : List ℕ)
      → most_terms < factor_terms q ^ n → most_terms < product_terms (q ∷ qs) (n ∷ e)
  products_past_power q qs n e h =
      let is = products-cons q qs n e in
      let more = at_least (factor_terms q ^ n) (product_terms qs e) (products_some qs e) in
      omega (arith, is, more, h)

  -- the count of one image more
  pub products_more : (q : Terms A) (qs all : List (Terms A)) (n : ℕ) (e whole : List ℕ)
      (rest power : ℕ) (o : Option ℕ) → all ≡ q ∷ qs → whole ≡ n ∷ e
      → rest ≡ product_terms qs e → power ≡ factor_terms q ^ n
      → IsCount (power * rest) o → IsCount (product_terms all whole) o
  products_more q qs all n e whole rest power o f g r p h =
      count_of (power * rest) (product_terms all whole) o
      (ap₂ ◌*◌ p r ∙ sym (products-cons q qs n e) ∙ sym (ap₂ product_terms f g)) h

  pub products_past : (q : Terms A) (qs all : List (Terms A)) (n : ℕ) (e whole : List ℕ)
      → all ≡ q ∷ qs → whole ≡ n ∷ e
      → (most_terms < product_terms qs e) ⊎ (most_terms < factor_terms q ^ n)
      → most_terms < product_terms all whole
  products_past q qs all n e whole f g (inl h) =
      subst (λ k. most_terms < k) (sym (ap₂ product_terms f g)) (products_past_rest q qs n e h)
  products_past q qs all n e whole f g (inr h) =
      subst (λ k. most_terms < k) (sym (ap₂ product_terms f g)) (products_past_power q qs n e h)

  -- ---- compositions
  pub composed-append : (p q : Terms A) (images : List (Terms A))
      → composition_terms (p ++ q) images
      ≡ composition_terms p images + composition_terms q images
  unfolding composition_terms
  composed-append [] q images = sym (N.zero-add (composition_terms q images))
  composed-append (t ∷ p) q images =
      let rest = composed-append p q images in omega (arith, rest)

  pub composed_none : (images : List (Terms A)) → composition_terms [] images ≡ 0
  unfolding composition_terms
  composed_none images = refl

  pub composed_one : (t : List ℕ × A) (images : List (Terms A)) → product_terms images t.0
      ≡ composition_terms (t ∷ []) images
  unfolding composition_terms
  composed_one t images = sym (N.add-zero (product_terms images t.0))

  pub composed_past : (ts front back : Terms A) (images : List (Terms A)) → front ++ back ≡ ts
      → (most_terms < composition_terms front images)
      ⊎ (most_terms < composition_terms back images)
      → most_terms < composition_terms ts images
  composed_past ts front back images e (inl h) =
      let f = ap (λ p. composition_terms p images) (sym e) ∙ composed-append front back images in
      omega (arith, f, h)
  composed_past ts front back images e (inr h) =
      let f = ap (λ p. composition_terms p images) (sym e) ∙ composed-append front back images in
      omega (arith, f, h)

  pub composed_parts : (ts front back : Terms A) (images : List (Terms A)) (left right : ℕ)
      (o : Option ℕ) → front ++ back ≡ ts → left ≡ composition_terms front images
      → right ≡ composition_terms back images → IsCount (left + right) o
      → IsCount (composition_terms ts images) o
  composed_parts ts front back images left right o e l r h =
      count_of (left + right) (composition_terms ts images) o
      (ap₂ ◌+◌ l r ∙ sym (composed-append front back images)
      ∙ ap (λ p. composition_terms p images) e) h

  pub combined_more : (q g : Terms A) (qs gs : List (Terms A)) → combination_terms (q ∷ qs) (g ∷ gs)
      ≡ length q * length g + combination_terms qs gs
  unfolding combination_terms
  combined_more q g qs gs = refl

  pub combined_none : (qs gs : List (Terms A)) → (qs ≡ []) ⊎ (gs ≡ []) → combination_terms qs gs ≡ 0
  unfolding combination_terms
  combined_none [] gs h = refl
  combined_none (q ∷ qs) [] h = refl
  combined_none (q ∷ qs) (g ∷ gs) (inl h) = absurd (cc)
  combined_none (q ∷ qs) (g ∷ gs) (inr h) = absurd (cc)

  -- a place more: the total so far, and what is left
  pub combined_past_term : (q g : Terms A) (qs gs left right : List (Terms A)) (total all : ℕ)
      → left ≡ q ∷ qs → right ≡ g ∷ gs → total + combination_terms left right ≡ all
      → most_terms < length q * length g → most_terms < all
  combined_past_term q g qs gs left right total all e f is h =
      let more = ap₂ combination_terms e f ∙ combined_more q g qs gs in omega (arith, more, is, h)

  pub combined_past_sum : (q g : Terms A) (qs gs left right : List (Terms A)) (total terms all : ℕ)
      → left ≡ q ∷ qs → right ≡ g ∷ gs → total + combination_terms left right ≡ all
      → terms ≡ length q * length g → most_terms < total + terms → most_terms < all
  combined_past_sum q g qs gs left right total terms all e f is t h =
      let more = ap₂ combination_terms e f ∙ combined_more q g qs gs in
      omega (arith, more, is, t, h)

  pub combined_next : (q g : Terms A) (qs gs left right : List (Terms A))
      (total terms next all : ℕ) → left ≡ q ∷ qs → right ≡ g ∷ gs
      → total + combination_terms left right ≡ all → terms ≡ length q * length g
      → next ≡ total + terms → next + combination_terms qs gs ≡ all
  combined_next q g qs gs left right total terms next all e f is t n =
      let more = ap₂ combination_terms e f ∙ combined_more q g qs gs in
      omega (arith, more, is, t, n)

  pub combined_all : (left right : List (Terms A)) (total all : ℕ) → (left ≡ []) ⊎ (right ≡ [])
      → total + combination_terms left right ≡ all → total ≤ most_terms
      → (total ≡ all) × (all ≤ most_terms)
  combined_all left right total all h is few =
      let none = combined_none left right h in
      (omega (arith, none, is), omega (arith, none, is, few))
