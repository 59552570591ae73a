-- Lists of terms with different monomials, and what polynomials that are the same share.
--   distinct_from_pairs           what pairs say
--   distinct_front, distinct_back, distinct_parts     of two lists behind one another
--   shared_apart                  a monomial of a polynomial is in each list that is the same
--   not_shared                    two polynomials that are the same as the parts share none
use Rattle.algebra.specs.Each.{Each}
use Rattle.std.proofs.Common.{◌≡◌, ◌≢◌, ℕ, zero, suc, false, List, [], ◌∷◌, ◌++◌, map, sym, ap, subst, ◌∙◌, ◌⊎◌, inl, inr, arith, true≢false}
use Rattle.std.specs.List.{All, AllPairs, Contains}
use Rattle.std.proofs.lemmas.List.Elements.{All-head, All-tail, Contains-append_cases}
use Rattle.algebra.specs.Scalars.{Scalars}
use Rattle.algebra.specs.Ring.{IsRing, ring as ring_of}
use Rattle.polynomials.specs.Exponent.{same}
use Rattle.polynomials.specs.Terms.{Terms, coefficient, Same}
use Rattle.polynomials.specs.Order.{Rank, IsMonomialOrder}
use Rattle.polynomials.specs.Polynomial.{HasNoZero, IsPolynomial}
use Rattle.polynomials.proofs.Exponent.{same_refl, same_cases, same_apart}
use Rattle.polynomials.specs.Polynomial.{Apart, IsDistinct}
use Rattle.polynomials.proofs.Distinct.{distinct_falls}
use Rattle.polynomials.proofs.Distinct.{coefficient_apart, coefficient_first, coefficient_rest}
use Rattle.poly.specs.Shared.{monomials, Share}

module _ {A : Type 0} where
  apart_back : (e : List ℕ) (p q : Terms A) → Apart e (p ++ q) → Apart e q
  unfolding Each
  apart_back e [] q a = a
  apart_back e (t ∷ p) q a = apart_back e p q a.1

  apart_front : (e : List ℕ) (p q : Terms A) → Apart e (p ++ q) → Apart e p
  unfolding Each
  apart_front e [] q a = tt
  apart_front e (t ∷ p) q a = (a.0, apart_front e p q a.1)

  pub distinct_front : (p q : Terms A) → IsDistinct (p ++ q) → IsDistinct p
  unfolding IsDistinct
  distinct_front [] q d = tt
  distinct_front (t ∷ p) q d = (apart_front t.0 p q d.0, distinct_front p q d.1)

  pub distinct_back : (p q : Terms A) → IsDistinct (p ++ q) → IsDistinct q
  unfolding IsDistinct
  distinct_back [] q d = d
  distinct_back (t ∷ p) q d = distinct_back p q d.1

  distinct_parts : (p q : Terms A) → IsDistinct (p ++ q) → (e : List ℕ) → Apart e p ⊎ Apart e q
  unfolding IsDistinct Each
  distinct_parts [] q d e = inl tt
  distinct_parts (t ∷ p) q d e = go (same_cases e t.0) (distinct_parts p q d.1 e)
    where
      go : (e ≡ t.0) ⊎ (same e t.0 ≡ false) → Apart e p ⊎ Apart e q → Apart e (t ∷ p) ⊎ Apart e q
      go (inl is) h = inr (subst (λ (d : List ℕ). Apart d q) (sym is) (apart_back t.0 p q d.0))
      go (inr other) (inl h) = inl (other, h)
      go (inr other) (inr h) = inr h

  here : (e : List ℕ) (t : List ℕ × A) → Contains (monomials (t ∷ [])) e → e ≡ t.0
  here e t (zero, below, is) = sym is
  here e t (suc k, below, is) = absurd (omega arith)

  contains_cases : (e : List ℕ) (t : List ℕ × A) (p : Terms A) → Contains (monomials (t ∷ p)) e
      → (e ≡ t.0) ⊎ Contains (monomials p) e
  contains_cases e t p c = go (Contains-append_cases (monomials (t ∷ [])) (monomials p) e c)
    where
      go : Contains (monomials (t ∷ [])) e ⊎ Contains (monomials p) e → (e ≡ t.0)
          ⊎ Contains (monomials p) e
      go (inl h) = inl (here e t h)
      go (inr h) = inr h

  -- a monomial that stands behind one that stands apart
  apart_contains : (d e : List ℕ) (p : Terms A) → Apart d p → Contains (monomials p) e
      → same d e ≡ false
  unfolding Each
  apart_contains d e [] a (k, below, is) = absurd (omega arith)
  apart_contains d e (t ∷ p) a c = go (contains_cases e t p c) (apart_contains d e p a.1)
    where
      go : (e ≡ t.0) ⊎ Contains (monomials p) e → (Contains (monomials p) e → same d e ≡ false)
          → same d e ≡ false
      go (inl is) rest = subst (λ (x : List ℕ). same d x ≡ false) (sym is) a.0
      go (inr h) rest = rest h

module _ {X A : Type 0} (monomial : X → List ℕ) (number : X → A) where
  abbrev term : X → List ℕ × A
  term x = (monomial x, number x)

  apart_from_all : (x : X) (xs : List X) → All (λ y. monomial x ≢ monomial y) xs
      → Apart (monomial x) (map term xs)
  unfolding Each
  apart_from_all x [] h = tt
  apart_from_all x (y ∷ xs) h = (
    same_apart (monomial x) (monomial y) (All-head (λ y. monomial x ≢ monomial y) y xs h),
    apart_from_all x xs (All-tail (λ y. monomial x ≢ monomial y) y xs h),
  )

  pub distinct_from_pairs : (xs : List X) → AllPairs (λ x y. monomial x ≢ monomial y) xs
      → IsDistinct (map term xs)
  unfolding IsDistinct
  distinct_from_pairs [] h = tt
  distinct_from_pairs (x ∷ xs) h = (
    apart_from_all x xs (λ k d below. h zero (suc k) d (omega arith) (omega arith)),
    distinct_from_pairs xs (λ i j d less below. h (suc i) (suc j) d (omega arith) (omega arith)),
  )

module _ (S : Scalars) (r : IsRing S.arithmetic) where
  -- a term with other exponents
  coefficient_other : (t : List ℕ × S.Elem) (p : Terms S.Elem) (e : List ℕ) → same t.0 e ≡ false
      → coefficient S.arithmetic (t ∷ p) e ≡ coefficient S.arithmetic p e
  coefficient_other t p e other = go (same_cases e t.0)
    where
      go : (e ≡ t.0) ⊎ (same e t.0 ≡ false) → coefficient S.arithmetic (t ∷ p) e
          ≡ coefficient S.arithmetic p e
      go (inl is) = absurd (true≢false (sym (same_refl t.0) ∙ ap (same t.0) (sym is) ∙ other))
      go (inr apart) = coefficient_rest (ring_of S.arithmetic r) t p e apart

  -- the coefficient at a monomial of a list whose monomials differ
  coefficient_kept : (p : Terms S.Elem) (e : List ℕ) → IsDistinct p → HasNoZero S.arithmetic p
      → Contains (monomials p) e → coefficient S.arithmetic p e ≢ S.zero
  unfolding IsDistinct Each
  coefficient_kept [] e d n (k, below, is) = absurd (omega arith)
  coefficient_kept (t ∷ p) e d n c = go (contains_cases e t p c) (coefficient_kept p e d.1 n.1)
    where
      go : (e ≡ t.0) ⊎ Contains (monomials p) e
          → (Contains (monomials p) e → coefficient S.arithmetic p e ≢ S.zero)
          → coefficient S.arithmetic (t ∷ p) e ≢ S.zero
      go (inl is) rest none = n.0 (sym (coefficient_first (ring_of S.arithmetic r) t p d.0)
          ∙ ap (coefficient S.arithmetic (t ∷ p)) (sym is) ∙ none)
      go (inr h) rest none = rest h (sym (coefficient_other t p e (apart_contains t.0 e p d.0 h))
          ∙ none)

  shared_apart : (O : Rank) (o : IsMonomialOrder O) (m : ℕ) (p q : Terms S.Elem) (e : List ℕ)
      → IsPolynomial S.arithmetic O m p → Same S.arithmetic p q → Contains (monomials p) e
      → Apart e q → ⊥
  shared_apart O o m p q e h s c a = coefficient_kept p e (distinct_falls O o p h.falls) h.nonzero c
      (s.at e ∙ coefficient_apart (ring_of S.arithmetic r) e q a)

  pub not_shared : (O O' : Rank) (o : IsMonomialOrder O) (o' : IsMonomialOrder O') (m m' : ℕ)
      (p q front back : Terms S.Elem) → IsPolynomial S.arithmetic O m p
      → IsPolynomial S.arithmetic O' m' q → Same S.arithmetic p front → Same S.arithmetic q back
      → IsDistinct (front ++ back) → Share p q → ⊥
  not_shared O O' o o' m m' p q front back h k s t d w = go (distinct_parts front back d w.monomial)
    where
      go : Apart w.monomial front ⊎ Apart w.monomial back → ⊥
      go (inl a) = shared_apart O o m p front w.monomial h s w.in_left a
      go (inr a) = shared_apart O' o' m' q back w.monomial k t w.in_right a
