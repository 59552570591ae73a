-- Polynomials of one term.
--   took_one          a term alone, left out where it is zero
--   few_polynomial, few_zero     of one term or none, as it is, and where it is zero
--   constant-same, is_variable     it is a constant, a variable
use Rattle.std.proofs.Common.{◌≡◌, ◌≤◌, map, ℕ, List, [], ◌∷◌, ◌++◌, replicate, length, refl, sym, ap, ap₂, subst, ◌∙◌, arith, inl, inr, Some}
use Rattle.std.specs.List.{slice_get, All}
use Rattle.std.specs.Option.{option_map, IsSomeAnd}
use Rattle.std.proofs.lemmas.Option.{slice_get-map}
use Rattle.std.proofs.lemmas.List.Elements.{All-head}
use Rattle.algebra.specs.Scalars.{Scalars}
use Rattle.algebra.specs.Ring.{IsRing, ring as ring_of}
use Rattle.polynomials.specs.Exponent.{unit_exponents, exponents}
use Rattle.polynomials.proofs.Exponent.{exponents_monoid}
use Rattle.polynomials.proofs.AlgebraRing.{same_of_algebra, algebra-nil, monomial, monomial-list, monomial-zero}
use Rattle.polynomials.specs.Terms.{Terms, Same, variables, constant}
use Rattle.polynomials.specs.Order.{Rank}
use Rattle.polynomials.specs.Polynomial.{IsPolynomial}
use Rattle.poly.specs.Pushed.{Takes}
use Rattle.poly.proofs.Kept.{polynomial_nil, polynomial_one}

module _ (S : Scalars) where
  variables-get : (m i : ℕ) (e : List ℕ) → slice_get (unit_exponents m) i ≡ Some e
      → slice_get (variables S.arithmetic m) i ≡ Some ((e, S.one) ∷ [])
  unfolding variables
  variables-get m i e h = slice_get-map (λ e. (e, S.one) ∷ []) (unit_exponents m) i
      ∙ ap (option_map (λ e. (e, S.one) ∷ [])) h

  pub is_variable : (m i : ℕ) (e : List ℕ) (c : S.Elem) (P : Terms S.Elem → Type 0)
      → slice_get (unit_exponents m) i ≡ Some e → c ≡ S.one → P ((e, c) ∷ [])
      → IsSomeAnd (slice_get (variables S.arithmetic m) i) P
  is_variable m i e c P h l s = subst (λ v. IsSomeAnd v P) (sym (variables-get m i e h))
      (subst P (ap (λ (a : S.Elem). (e, a) ∷ []) l) s)

  pub constant-same : (m : ℕ) (e : List ℕ) (c d : S.Elem) (p : Terms S.Elem) → e ≡ replicate m 0
      → c ≡ d → Same S.arithmetic p ((e, c) ∷ []) → Same S.arithmetic p (constant m d)
  unfolding constant
  constant-same m e c d p k l s = subst (λ (x : Terms S.Elem). Same S.arithmetic p x)
      (ap₂ (λ (f : List ℕ) (a : S.Elem). (f, a) ∷ []) k l) s

  module _ (r : IsRing S.arithmetic) where
    -- a term that is zero
    nothing : (e : List ℕ) (a : S.Elem) → a ≡ S.zero → Same S.arithmetic [] ((e, a) ∷ [])
    nothing e a z = same_of_algebra exponents exponents_monoid (ring_of S.arithmetic r) []
        ((e, a) ∷ [])
        (algebra-nil exponents exponents_monoid (ring_of S.arithmetic r)
        ∙ sym (monomial-list exponents exponents_monoid (ring_of S.arithmetic r) e a
        ∙ ap (monomial exponents exponents_monoid (ring_of S.arithmetic r) e) z
        ∙ monomial-zero exponents exponents_monoid (ring_of S.arithmetic r) e))

    module _ (O : Rank) (m : ℕ) where
      pub record One (e : List ℕ) (a : S.Elem) (p : Terms S.Elem) : Type 0 where
        pub is : IsPolynomial S.arithmetic O m p
        pub term : Same S.arithmetic p ((e, a) ∷ [])

      pub took_one : (e : List ℕ) (a : S.Elem) (olds news : Terms S.Elem) → length e ≡ m → olds ≡ []
          → Takes S e a olds news → One e a news
      took_one e a olds news l o (inl none) =
          let all : news ≡ [] = none.1 ∙ o in
          record { is = polynomial_nil O S m news all; term = rw all (nothing e a none.0) }
      took_one e a olds news l o (inr some) =
          let all : news ≡ (e, a) ∷ [] = some.1 ∙ ap (λ (zs : Terms S.Elem). zs ++ (e, a) ∷ []) o in
          record {
            is = rw all (polynomial_one O S m e a l some.0);
            term = rw all (record { at = λ d. refl });
          }

      -- one term or none
      module _ {X : Type 0} (f : X → List ℕ × S.Elem) where
        pub few_polynomial : (xs : List X) → length xs ≤ 1 → All (λ x. length (f x).0 ≡ m) xs
            → ¬ IsSomeAnd (slice_get xs 0) (λ x. (f x).1 ≡ S.zero)
            → IsPolynomial S.arithmetic O m (map f xs)
        few_polynomial [] l a n = polynomial_nil O S m [] refl
        few_polynomial (x ∷ []) l a n = polynomial_one O S m (f x).0 (f x).1
            (All-head (λ x. length (f x).0 ≡ m) x [] a) n
        few_polynomial (x ∷ y ∷ xs) l a n = absurd (omega arith)

        pub few_zero : (xs : List X) → length xs ≤ 1
            → IsSomeAnd (slice_get xs 0) (λ x. (f x).1 ≡ S.zero) → Same S.arithmetic [] (map f xs)
        few_zero [] l z = absurd z
        few_zero (x ∷ []) l z = nothing (f x).0 (f x).1 z
        few_zero (x ∷ y ∷ xs) l z = absurd (omega arith)
