-- A polynomial's value as a function of the number at one place of the point.
--   below_degrees        each exponent of a variable is at most the degree in it
--   value_of_place       this function is a sum of multiples of powers up to the degree
use Rattle.std.proofs.Common.{◌≡◌, ℕ, zero, suc, ◌≤◌, ◌<◌, List, [], ◌∷◌, ◌++◌, length, get_or, sym, ap, ◌∙◌, arith}
use Rattle.algebra.specs.Arithmetic.{power}
use Rattle.algebra.specs.Each.{Each}
use Rattle.algebra.specs.Ring.{CommRing, operations}
use Rattle.algebra.specs.Sum.{sum_over}
use Rattle.exponentials.proofs.Monomial.{power-one}
use Rattle.algebra.proofs.RingLaws.{one-mul, mul_left_comm, power-zero}
use Rattle.polynomials.specs.Terms.{Terms, monomial_at, evaluate, value_at}
use Rattle.polynomials.specs.Weight.{degrees}
use Rattle.polynomials.proofs.Exponent.{get_or-lcm}
use Rattle.corollaries.proofs.Horner.{IsSumOfPowers, powers_zero, powers_add, powers_one, powers_along}

each_weaker : {X : Type 0} (P Q : X → Type 0) → ((x : X) → P x → Q x) → (xs : List X) → Each P xs
    → Each Q xs
unfolding Each
each_weaker P Q h [] a = tt
each_weaker P Q h (x ∷ xs) a = (h x a.0, each_weaker P Q h xs a.1)

pub below_degrees : {A : Type 0} (k : ℕ) (p : Terms A)
    → Each (λ t. get_or t.0 k 0 ≤ get_or (degrees p) k 0) p
unfolding Each degrees
below_degrees k [] = tt
below_degrees k (t ∷ p) = (
  omega (arith, get_or-lcm t.0 (degrees p) k),
  each_weaker (λ u. get_or u.0 k 0 ≤ get_or (degrees p) k 0)
      (λ u. get_or u.0 k 0 ≤ get_or (degrees (t ∷ p)) k 0)
      (λ u l. omega (arith, get_or-lcm t.0 (degrees p) k)) p (below_degrees k p),
)

module _ {A : Type 0} (R : CommRing A) where
  open R use {zero as 𝟘, one as 𝟙, add as ◌⊕◌, mul as ◌⊗◌, neg}

  infixl 60 ◌⊕◌
  infixl 70 ◌⊗◌
  -- one number's powers taken out of a monomial's value
  place_out : (before : List A) (x : A) (behind : List A) (e : List ℕ)
      → monomial_at (operations R) (before ++ x ∷ behind) e ≡ power (operations R) x
      (get_or e (length before) 0) ⊗ monomial_at (operations R) (before ++ 𝟙 ∷ behind) e
  unfolding monomial_at
  place_out [] x behind [] = sym (ap (λ y. y ⊗ 𝟙) (power-zero R x) ∙ one-mul R 𝟙)
  place_out [] x behind (n ∷ e) =
      ap (λ y. power (operations R) x n ⊗ y)
      (sym (ap (λ y. y ⊗ monomial_at (operations R) behind e) (power-one R n) ∙ one-mul R _))
  place_out (a ∷ before) x behind [] = sym (ap (λ y. y ⊗ 𝟙) (power-zero R x) ∙ one-mul R 𝟙)
  place_out (a ∷ before) x behind (n ∷ e) =
      ap (λ y. power (operations R) a n ⊗ y) (place_out before x behind e) ∙ mul_left_comm R _ _ _

  module _ (n : ℕ) (before behind : List A) where
    pub value_of_terms : (p : Terms A) → Each (λ t. get_or t.0 (length before) 0 < n) p
        → IsSumOfPowers R n (λ x. value_at (operations R) p (before ++ x ∷ behind))
    unfolding Each evaluate sum_over
    value_of_terms [] h = powers_zero R n
    value_of_terms (t ∷ p) h =
        powers_along R n
        (λ x. power (operations R) x (get_or t.0 (length before) 0) ⊗
        (t.1 ⊗ monomial_at (operations R) (before ++ 𝟙 ∷ behind) t.0) ⊕ value_at
        (operations R) p (before ++ x ∷ behind))
        (λ x. value_at (operations R) (t ∷ p) (before ++ x ∷ behind))
        (λ x. ap (λ y. y ⊕ value_at (operations R) p (before ++ x ∷ behind))
        (ap (λ y. t.1 ⊗ y) (place_out before x behind t.0) ∙ mul_left_comm R _ _ _))
        (powers_add R n _ _
        (powers_one R n (get_or t.0 (length before) 0)
        (t.1 ⊗ monomial_at (operations R) (before ++ 𝟙 ∷ behind) t.0) h.0)
        (value_of_terms p h.1))

  pub value_of_place : (before behind : List A) (p : Terms A)
      → IsSumOfPowers R (suc (get_or (degrees p) (length before) 0))
      (λ x. value_at (operations R) p (before ++ x ∷ behind))
  value_of_place before behind p =
      value_of_terms (suc (get_or (degrees p) (length before) 0)) before behind p
      (each_weaker (λ t. get_or t.0 (length before) 0 ≤ get_or (degrees p) (length before) 0)
      (λ t. get_or t.0 (length before) 0 < suc (get_or (degrees p) (length before) 0))
      (λ t l. omega arith) p (below_degrees (length before) p))
