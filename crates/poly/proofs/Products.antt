-- Products by halves, and powers by squares.
--   times-append                    a sum's product with a factor
--   product_halves                  the sum of the products with the halves
--   product_none, product_one       the product with no term, and with one
--   past_one_scaled, past_one_moved     where that is past
--   product_turned                  the product with the factors in turn
--   power_none, power_first, power_squared, power_next       the power of a sum of exponents, and the next power
use Rattle.polynomials.specs.Algebra as Algebra
use Rattle.std.proofs.Common.{◌≡◌, ◌+◌, ℕ, suc, List, [], ◌∷◌, ◌++◌, refl, sym, ap, ap₂, subst, ◌∙◌, inl, inr, append_assoc}
use Rattle.std.proofs.lemmas.List.{append-nil}
use Rattle.algebra.specs.Scalars.{Scalars, IsBounded}
use Rattle.algebra.specs.Ring.{IsRing, ring as ring_of}
use Rattle.algebra.specs.Size.{IsPast, product_size}
use Rattle.polynomials.specs.Exponent.{plus}
use Rattle.polynomials.specs.Terms.{Terms, Same, constant, shift, times, lists}
use Rattle.polynomials.specs.Polynomial.{Arity}
use Rattle.polynomials.specs.Weight.{degrees, FitsMonomial}
use Rattle.polynomials.specs.Weight.{weight, IsPastProduct}
use Rattle.polynomials.specs.Exponent.{exponents}
use Rattle.polynomials.proofs.Exponent.{exponents_monoid}
use Rattle.polynomials.proofs.AlgebraRing.{algebra_ring, algebra_same, same_of_algebra, algebra-times}
use Rattle.algebra.specs.Arithmetic.{power}
use Rattle.algebra.specs.Ring.{CommRing}
use Rattle.algebra.proofs.RingLaws.{power-zero, power-suc, power-add}
use Rattle.polynomials.proofs.Arity.{arity-power}
use Rattle.polynomials.proofs.Poly.{Poly, poly, poly_ring, poly_same, same_from_poly, poly-times}
use Rattle.polynomials.proofs.Composition.{poly-power}
use Rattle.polynomials.proofs.Same.{Same-refl, same_append, same_times}
use Rattle.poly.proofs.TermWeights.{weight-one}
use Rattle.polynomials.proofs.Degrees.{fits_divides, divides-plus, divides_refl, degrees-term}
use Rattle.poly.proofs.Halves.{same_trans}

module _ (S : Scalars) where
  pub times-append : (p q f : Terms S.Elem) → times S.arithmetic (p ++ q) f ≡ times S.arithmetic p f
      ++ times S.arithmetic q f
  unfolding Algebra.times
  times-append [] q f = refl
  times-append (t ∷ p) q f = ap (λ (zs : Terms S.Elem). shift S.arithmetic t.0 t.1 f ++ zs)
      (times-append p q f)
      ∙ sym (append_assoc (shift S.arithmetic t.0 t.1 f) (times S.arithmetic p f)
      (times S.arithmetic q f))

  pub product_none : (ts p f : Terms S.Elem) → ts ≡ [] → p ≡ []
      → Same S.arithmetic p (times S.arithmetic ts f)
  unfolding Algebra.times
  product_none ts p f e h = rw (e, h) (record { at = λ d. refl })

  module _ (r : IsRing S.arithmetic) where
    pub product_halves : (ts front back left right s f : Terms S.Elem) → front ++ back ≡ ts
        → Same S.arithmetic left (times S.arithmetic front f)
        → Same S.arithmetic right (times S.arithmetic back f)
        → Same S.arithmetic s (left ++ right) → Same S.arithmetic s (times S.arithmetic ts f)
    product_halves ts front back left right s f e h k sum =
        subst (λ (zs : Terms S.Elem). Same S.arithmetic s (times S.arithmetic zs f)) e
        (subst (Same S.arithmetic s) (sym (times-append front back f))
        (same_trans S s (left ++ right) (times S.arithmetic front f ++ times S.arithmetic back f)
        sum
        (same_append (ring_of S.arithmetic r) h k)))

    -- ---- one term
    module _ (e : List ℕ) (c : S.Elem) where
      pub product_one : (ts f p : Terms S.Elem) → ts ≡ (e, c) ∷ []
          → Same S.arithmetic p (shift S.arithmetic e c f)
          → Same S.arithmetic p (times S.arithmetic ts f)
      unfolding Algebra.times
      product_one ts f p is h =
          subst (λ (zs : Terms S.Elem). Same S.arithmetic p (times S.arithmetic zs f)) (sym is)
          (subst (Same S.arithmetic p) (sym (append-nil (shift S.arithmetic e c f))) h)

      module _ (z : IsBounded S.arithmetic S.size) where
        pub past_one_scaled : (ts f : Terms S.Elem) → ts ≡ (e, c) ∷ []
            → IsPast (product_size (S.size c) (weight S.size f)) → IsPastProduct S ts f
        past_one_scaled ts f is past = inl (subst (λ s. IsPast (product_size s (weight S.size f)))
            (sym (ap (weight S.size) is ∙ weight-one S r z e c)) past)

        pub past_one_moved : (ts f : Terms S.Elem) → ts ≡ (e, c) ∷ []
            → ¬ (FitsMonomial (plus e (degrees f))) → IsPastProduct S ts f
        past_one_moved ts f is wide = inr (λ fits.
            wide (fits_divides (plus e (degrees f)) (plus (degrees ((e, c) ∷ [])) (degrees f))
            (divides-plus e (degrees f) (degrees ((e, c) ∷ [])) (degrees f)
            (degrees-term [] (e, c) []) (divides_refl (degrees f)))
            (subst (λ (zs : Terms S.Elem). FitsMonomial (plus (degrees zs) (degrees f))) is fits)))

    pub product_turned : (p q q' s : Terms S.Elem) → q' ≡ q
        → Same S.arithmetic s (times S.arithmetic q' p)
        → Same S.arithmetic s (times S.arithmetic p q)
    product_turned p q q' s e h =
        let k : Same S.arithmetic s (times S.arithmetic q p) = subst (λ (zs : Terms S.Elem).
        Same S.arithmetic s (times S.arithmetic zs p)) e h in
        same_of_algebra exponents exponents_monoid (ring_of S.arithmetic r) s
        (times S.arithmetic p q)
        (algebra_same exponents (ring_of S.arithmetic r) k
        ∙ algebra-times exponents exponents_monoid (ring_of S.arithmetic r) q p
        ∙ (algebra_ring exponents exponents_monoid (ring_of S.arithmetic r)).mul_comm _ _
        ∙ sym (algebra-times exponents exponents_monoid (ring_of S.arithmetic r) p q))

    -- ---- powers
    module _ (m : ℕ) where
      abbrev Q : CommRing (Poly m (ring_of S.arithmetic r))
      Q = poly_ring m (ring_of S.arithmetic r)

      abbrev power_of : Terms S.Elem → ℕ → Terms S.Elem
      power_of q n = power (lists S.arithmetic m) q n

      power_zeroth : (p q : Terms S.Elem) → Same S.arithmetic p (constant m S.one)
          → Same S.arithmetic p (power_of q 0)
      unfolding power
      power_zeroth p q h = h

      pub power_none : (p q : Terms S.Elem) (n : ℕ) → n ≡ 0 → Same S.arithmetic p (constant m S.one)
          → Same S.arithmetic p (power_of q n)
      power_none p q n is h = subst (λ i. Same S.arithmetic p (power_of q i)) (sym is)
          (power_zeroth p q h)

      pub power_first : (q : Terms S.Elem) (n : ℕ) → n ≡ 1 → Arity m q
          → Same S.arithmetic q (power_of q n)
      power_first q n is a =
          subst (λ i. Same S.arithmetic q (power_of q i)) (sym is)
          (same_from_poly m (ring_of S.arithmetic r) q (power_of q 1) a
          (arity-power m S.arithmetic q 1 a)
          (sym (Q.mul-one _) ∙ ap (Q.mul (poly m (ring_of S.arithmetic r) q))
          (sym (power-zero Q (poly m (ring_of S.arithmetic r) q)))
          ∙ sym (power-suc Q (poly m (ring_of S.arithmetic r) q) 0)
          ∙ sym (poly-power m (ring_of S.arithmetic r) q 1)))

      pub power_squared : (x y z q : Terms S.Elem) (a b n : ℕ) → a + b ≡ n → Arity m q → Arity m z
          → Same S.arithmetic x (power_of q a) → Same S.arithmetic y (power_of q b)
          → Same S.arithmetic z (times S.arithmetic x y) → Same S.arithmetic z (power_of q n)
      power_squared x y z q a b n is aq az h k s =
          subst (λ i. Same S.arithmetic z (power_of q i)) is
          (same_from_poly m (ring_of S.arithmetic r) z (power_of q (a + b)) az
          (arity-power m S.arithmetic q (a + b) aq)
          (poly_same m (ring_of S.arithmetic r) s ∙ poly-times m (ring_of S.arithmetic r) x y
          ∙ ap₂ Q.mul (poly_same m (ring_of S.arithmetic r) h
          ∙ poly-power m (ring_of S.arithmetic r) q a) (poly_same m (ring_of S.arithmetic r) k
          ∙ poly-power m (ring_of S.arithmetic r) q b)
          ∙ sym (power-add Q (poly m (ring_of S.arithmetic r) q) a b)
          ∙ sym (poly-power m (ring_of S.arithmetic r) q (a + b))))

      pub power_next : (x z q : Terms S.Elem) (k n : ℕ) → suc k ≡ n
          → Same S.arithmetic x (power_of q k) → Same S.arithmetic z (times S.arithmetic q x)
          → Same S.arithmetic z (power_of q n)
      unfolding power
      power_next x z q k n is h s =
          subst (λ i. Same S.arithmetic z (power_of q i)) is
          (same_trans S z (times S.arithmetic q x) (times S.arithmetic q (power_of q k)) s
          (same_times (ring_of S.arithmetic r) (Same-refl S.arithmetic q) h))
