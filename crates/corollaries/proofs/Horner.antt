-- Functions of one number that are sums of multiples of its powers, at most n of them.
--   horner cs x            the sum of the cs times the powers of x
--   IsSumOfPowers n f      f x is such a sum of at most n numbers
--   powers_zero, powers_add, powers_one     the function 0, a sum, and a multiple of one power
--   zero_everywhere        zero at the first n points it is zero
use Rattle.std.proofs.Common.{◌≡◌, ◌≢◌, ℕ, zero, suc, ◌+◌, ◌≤◌, ◌<◌, List, [], ◌∷◌, length, refl, sym, ap, ap₂, ◌∙◌, arith}
use Rattle.algebra.specs.Arithmetic.{power}
use Rattle.algebra.specs.Ring.{CommRing, Inverses, operations}
use Rattle.algebra.proofs.InverseLaws.{zero_of_mul}
use Rattle.algebra.proofs.RingLaws.{zero-add, one-mul, mul-zero, power-zero, power-suc}
use Rattle.polynomials.proofs.Separate.{horner, horner-nil, horner-cons, suffixes, length-suffixes, horner-divide}
use Rattle.algebra.proofs.RingSolver.{ring, ring_rules}

module _ {A : Type 0} (R : CommRing A) where
  open R use {zero as 𝟘, one as 𝟙, add as ◌⊕◌, mul as ◌⊗◌, neg}

  infixl 60 ◌⊕◌
  infixl 70 ◌⊗◌
  sum_of_difference : (u v : A) → v ≡ 𝟘 → u ⊕ neg v ≡ 𝟘 → u ≡ 𝟘
  sum_of_difference u v z e =
      ring R (u ∷ v ∷ []) (search ring_rules depth 40) refl ∙ ap₂ ◌⊕◌ e z ∙ R.add-zero 𝟘

  module _ (F : Inverses R) (point : ℕ → A)
      (apart : (i j : ℕ) → i ≢ j → (point i ⊕ neg (point j)) ≢ 𝟘) where
    -- zero at the n points from k on
    roots : (n : ℕ) (cs : List A) → length cs ≤ n → (k : ℕ)
        → ((i : ℕ) → k ≤ i → i < k + n → horner R cs (point i) ≡ 𝟘) → (x : A) → horner R cs x ≡ 𝟘
    roots n [] l k h x = horner-nil R x
    roots zero (c ∷ cs) l k h x = absurd (omega arith)
    roots (suc n) (c ∷ cs) l k h x =
        let rest = roots n (suffixes R (point k) cs) (omega (arith, length-suffixes R (point k) cs))
        (suc k)
        (λ i li lt.
        zero_of_mul F _ _
        (R.mul_comm _ _ ∙ sym (horner-divide R c cs (point i) (point k))
        ∙ ap₂ (λ a b. a ⊕ neg b) (h i (omega arith) (omega arith))
        (h k (omega arith) (omega arith)) ∙ R.add-neg 𝟘) (apart i k (omega arith))) in
        sum_of_difference _ _ (h k (omega arith) (omega arith))
        (horner-divide R c cs x (point k) ∙ ap (λ y. (x ⊕ neg (point k)) ⊗ y) (rest x)
        ∙ mul-zero R _)

  -- ---- functions
  pub record IsSumOfPowers (n : ℕ) (f : A → A) : Type 0 where
    pub numbers : List A
    pub few : length numbers ≤ n
    pub is : (x : A) → f x ≡ horner R numbers x

  added : List A → List A → List A
  added [] ds = ds
  added (c ∷ cs) [] = c ∷ cs
  added (c ∷ cs) (d ∷ ds) = (c ⊕ d) ∷ added cs ds

  length-added : (n : ℕ) (cs ds : List A) → length cs ≤ n → length ds ≤ n → length (added cs ds) ≤ n
  unfolding added
  length-added n [] ds l k = k
  length-added n (c ∷ cs) [] l k = l
  length-added zero (c ∷ cs) (d ∷ ds) l k = absurd (omega arith)
  length-added (suc n) (c ∷ cs) (d ∷ ds) l k =
      let r : length (added cs ds) ≤ n = length-added n cs ds (omega arith) (omega arith) in
      omega arith

  horner-added : (cs ds : List A) (x : A) → horner R (added cs ds) x ≡ horner R cs x ⊕ horner R ds x
  unfolding added
  horner-added [] ds x = sym (ap (λ y. y ⊕ horner R ds x) (horner-nil R x) ∙ zero-add R _)
  horner-added (c ∷ cs) [] x = sym (ap (λ y. horner R (c ∷ cs) x ⊕ y) (horner-nil R x)
      ∙ R.add-zero _)
  horner-added (c ∷ cs) (d ∷ ds) x =
      horner-cons R (c ⊕ d) (added cs ds) x
      ∙ ap (λ y. (c ⊕ d) ⊕ x ⊗ y) (horner-added cs ds x)
      ∙ ring R (c ∷ d ∷ x ∷ horner R cs x ∷ horner R ds x ∷ []) (search ring_rules depth 40) refl
      ∙ sym (ap₂ ◌⊕◌ (horner-cons R c cs x) (horner-cons R d ds x))

  raised : ℕ → A → List A
  raised zero c = c ∷ []
  raised (suc n) c = 𝟘 ∷ raised n c

  length-raised : (n : ℕ) (c : A) → length (raised n c) ≡ suc n
  unfolding raised
  length-raised zero c = refl
  length-raised (suc n) c = ap suc (length-raised n c)

  horner-raised : (n : ℕ) (c x : A) → horner R (raised n c) x ≡ power (operations R) x n ⊗ c
  unfolding raised
  horner-raised zero c x =
      simp (horner-cons R, horner-nil R, mul-zero R, R.add-zero, power-zero R, one-mul R)
  horner-raised (suc n) c x =
      simp (horner-cons R, horner-raised n c x, zero-add R, power-suc R, R.mul_assoc)

  pub powers_zero : (n : ℕ) → IsSumOfPowers n (λ x. 𝟘)
  powers_zero n = record { numbers = []; few = omega arith; is = λ x. sym (horner-nil R x) }

  pub powers_add : (n : ℕ) (f g : A → A) → IsSumOfPowers n f → IsSumOfPowers n g
      → IsSumOfPowers n (λ x. f x ⊕ g x)
  powers_add n f g a b = record {
    numbers = added a.numbers b.numbers;
    few = length-added n a.numbers b.numbers a.few b.few;
    is = λ x. ap₂ ◌⊕◌ (a.is x) (b.is x) ∙ sym (horner-added a.numbers b.numbers x);
  }

  pub powers_one : (n k : ℕ) (c : A) → k < n → IsSumOfPowers n (λ x. power (operations R) x k ⊗ c)
  powers_one n k c l = record {
    numbers = raised k c;
    few = omega (arith, length-raised k c);
    is = λ x. sym (horner-raised k c x);
  }

  pub powers_along : (n : ℕ) (f g : A → A) → ((x : A) → g x ≡ f x) → IsSumOfPowers n f
      → IsSumOfPowers n g
  powers_along n f g e a = record { numbers = a.numbers; few = a.few; is = λ x. e x ∙ a.is x }

  module _ (F : Inverses R) (point : ℕ → A)
      (apart : (i j : ℕ) → i ≢ j → (point i ⊕ neg (point j)) ≢ 𝟘) where
    pub zero_everywhere : (n : ℕ) (f : A → A) → IsSumOfPowers n f
        → ((i : ℕ) → i < n → f (point i) ≡ 𝟘) → (x : A) → f x ≡ 𝟘
    zero_everywhere n f a h x =
        a.is x ∙ roots F point apart n a.numbers a.few 0
        (λ i li lt. sym (a.is (point i)) ∙ h i (omega arith)) x
