-- What the operators of the code answer.
--   itself, only               a polynomial is its own list of collected terms, and there is no other
--   tested_does                an operation that was done: its answer, after the tests
--   constant_stands            a constant
--   opposite_does, sum_does, .. each operator
--   high_product, low_product, left_zero, right_zero     the test of degrees
use Rattle.std.proofs.Common.{◌≡◌, ◌≢◌, inl, inr, ℕ, ◌+◌, ◌<◌, ◌≤◌, ℤ, pos, Bool, true, false, List, [], ◌∷◌, ◌++◌, length, arith, refl, sym, ap, subst, ◌∙◌, All, Result, Ok, Err, IfOk}
use Rattle.std.specs.Prelude.{nat_le, sum, IsErrOf, if◌then◌else◌}
use Rattle.std.specs.List.{Any}
use Rattle.std.proofs.lemmas.Bool.{leb-true, leb-false}
use Rattle.std.proofs.lemmas.List.Elements.{All-nil, All-cons}
use Rattle.algebra.proofs.FieldLaws.{inverse-ne-zero}
use Rattle.algebra.proofs.Scalars.{field_no_zero_divisors}
use Rattle.algebra.specs.Size.{IsPast, product_size}
use Rattle.algebra.specs.Fraction.{Fraction, ℚ, fractions, whole, inverse}
use Rattle.algebra.proofs.Fractions.{ℚ_ring, ℚ_field, ℚ_zero_test, fractions_ring, fractions_field}
use Rattle.algebra.proofs.ProductSizes.{product_comm}
use Rattle.algebra.proofs.SizeLaws.{fractions_bounded}
use Rattle.algebra.proofs.Wholes.{whole_injective}
use Rattle.polynomials.specs.Algebra as Algebra
use Rattle.polynomials.specs.Terms.{Terms, Same, constant, times, negate}
use Rattle.polynomials.specs.Order.{grevlex}
use Rattle.polynomials.specs.Polynomial.{IsPolynomial}
use Rattle.polynomials.specs.Degree.{IsDegree}
use Rattle.polynomials.specs.Weight.{weight, IsPastSum, IsPastProduct}
use Rattle.polynomials.proofs.Orders.{grevlex_order}
use Rattle.polynomials.proofs.Same.{Same-refl, Same-sym, Same-trans}
use Rattle.polynomials.proofs.Arity.{length-zeros, arity-times}
use Rattle.polynomials.proofs.Canonical.{canonical, canonical_is, canonical_same, polynomial_unique}
use Rattle.polynomials.proofs.TotalDegree.{times_degree}
use Rattle.polynomials.proofs.Weight.{weight-constant}
use Rattle.poly.specs.Seen.{terms_in}
use Rattle.poly.specs.Standing.{IsInVariables, StandsFor}
use Rattle.ring_laws.specs.declared.ArithmeticError.{ArithmeticError}
use Rattle.ring_laws.specs.declared.ArithmeticError.TheVariants as arithmetic_error
use Rattle.poly.proofs.Kept.{polynomial_nil, polynomial_one}
use Rattle.poly.proofs.Products.{product_turned}
use Rattle.poly.proofs.Standing.{polynomial_over}
use Rattle.loop_model.specs.FracPoly.{FracPoly}
use Rattle.loop_model.specs.Operations.{Operation, opposite_at, sum_at, difference_at, product_at, quotient_at, HoldsCollected, IsHigh, HasHighDegree, IsTooHigh, PassesLimit, IsPastOperation, most_degree, most_terms}
use Rattle.loop_model.specs.Stops.{Does, answer_at}
use Rattle.loop_model.specs.declared.map_error.MapError.TheVariants.{Limit}

-- ---- collected terms
module _ (m : ℕ) where
  pub itself : (P : Terms Fraction → Type 0) (p : Terms Fraction) → IsPolynomial ℚ grevlex m p → P p
      → HoldsCollected m P p
  itself P p is h = record { terms = p; is = is; same = Same-refl ℚ p; holds = h }

  -- there is one list of collected terms
  pub only : (P : Terms Fraction → Type 0) (p q : Terms Fraction) → IsPolynomial ℚ grevlex m p
      → Same ℚ p q → HoldsCollected m P q → P p
  only P p q is s c = subst P (polynomial_unique grevlex grevlex_order ℚ_ring m m c.terms p c.is is
      (Same-trans ℚ c.same (Same-sym ℚ s))) c.holds

-- ---- degrees
reached_low : (p : Terms Fraction) (d e : ℕ) → All (λ t. sum t.0 ≤ d) p → Any (λ t. sum t.0 ≡ e) p
    → e ≤ d
reached_low p d e h (k, t, l, is, s) = let low : sum t.0 ≤ d = subst (λ (u : List ℕ × Fraction).
    sum u.0 ≤ d) is (h k t l) in omega arith

degree_unique : (p : Terms Fraction) (d e : ℕ) → IsDegree d p → IsDegree e p → d ≡ e
degree_unique p d e h k = let le : d ≤ e = reached_low p e d k.at_most h.reached in let ge : e ≤ d =
    reached_low p d e h.at_most k.reached in omega arith

no_degree : (d : ℕ) → IsDegree {A = Fraction} d [] → ⊥
no_degree d h = absurd (omega (arith, h.reached.2))

times-nil : (p : Terms Fraction) → times ℚ p [] ≡ []
unfolding Algebra.times Algebra.shift
times-nil [] = refl
times-nil (t ∷ p) = times-nil p

module _ (m : ℕ) (p q : Terms Fraction) (p_is : IsPolynomial ℚ grevlex m p)
    (q_is : IsPolynomial ℚ grevlex m q) where
  abbrev product : Terms Fraction
  product = times ℚ p q

  product_degree : (d e : ℕ) (z : Terms Fraction) → IsDegree d p → IsDegree e q
      → IsPolynomial ℚ grevlex m z → Same ℚ z product → IsDegree (d + e) z
  product_degree d e z h k is s =
      times_degree ℚ_ring grevlex grevlex_order m (field_no_zero_divisors ℚ fractions_ring inverse
      fractions_field) z p q d e is p_is q_is s h k

  pub high_product : (d e : ℕ) → IsDegree d p → IsDegree e q → most_degree < d + e
      → HasHighDegree m product
  high_product d e h k l =
      let z : Terms Fraction = canonical grevlex grevlex_order ℚ_zero_test product in
      let is : IsPolynomial ℚ grevlex m z = canonical_is grevlex grevlex_order m ℚ_zero_test product
      (arity-times m ℚ p q p_is.arity q_is.arity) in
      let same : Same ℚ z product = canonical_same grevlex grevlex_order ℚ_zero_test product in
      record {
        terms = z;
        is = is;
        same = same;
        holds = record { degree = d + e; is = product_degree d e z h k is same; high = l };
      }

  pub low_product : (d e : ℕ) → IsDegree d p → IsDegree e q → HasHighDegree m product
      → most_degree < d + e
  low_product d e h k z =
      let is : z.holds.degree ≡ d + e = degree_unique z.terms z.holds.degree (d + e) z.holds.is
      (product_degree d e z.terms h k z.is z.same) in
      omega (arith, z.holds.high)

  zero_product : product ≡ [] → HasHighDegree m product → ⊥
  zero_product e z = let high = only m IsHigh [] product (polynomial_nil grevlex fractions m []
      refl) (subst (Same ℚ []) (sym e) (Same-refl ℚ [])) z in no_degree high.degree high.is

  pub left_zero : p ≡ [] → HasHighDegree m product → ⊥
  unfolding Algebra.times
  left_zero e = zero_product (ap (λ u. times ℚ u q) e)

  pub right_zero : q ≡ [] → HasHighDegree m product → ⊥
  right_zero e = zero_product (ap (times ℚ p) e ∙ times-nil p)

-- ---- the tests behind an operation
module _ (m : ℕ) (o : Operation) (low : IsTooHigh m o → ⊥) where
  abbrev IsFreeOne : Operation → Type 0
  IsFreeOne o = ¬ (PassesLimit m o)

  short : (p : FracPoly) → StandsFor m p o.result → length (terms_in p) ≤ most_terms
      → PassesLimit m o → ⊥
  short p h l (inl high) = low high
  short p h l (inr long) = let over : most_terms < length (terms_in p) =
      only m (λ u. most_terms < length u) (terms_in p) o.result (polynomial_over m p h.arity) h.same
      long in omega arith

  pub tested_does : (r : Result FracPoly ArithmeticError) → IfOk r (λ p. StandsFor m p o.result)
      → (IsErrOf r arithmetic_error.Wide → IsPastOperation m o) → Does m o (answer_at o.at r)
  tested_does (Ok p) h w = go (nat_le (length (terms_in p)) most_terms) refl
    where
      go : (b : Bool) → nat_le (length (terms_in p)) most_terms ≡ b
          → Does m o (if b then Ok p else Err (Limit o.at))
      go true e = (
        h,
        All-cons IsFreeOne o [] (short p h (leb-true (length (terms_in p)) most_terms e))
            (All-nil IsFreeOne),
      )
      go false e = record {
        before = [];
        operation = o;
        behind = [];
        order = refl;
        free = All-nil (λ o. ¬ (PassesLimit m o));
        offset = refl;
        holds = inr (record {
          terms = terms_in p;
          is = polynomial_over m p h.arity;
          same = h.same;
          holds = leb-false (length (terms_in p)) most_terms e;
        });
      }
  tested_does (Err arithmetic_error.Wide) h w = record {
    before = [];
    operation = o;
    behind = [];
    order = refl;
    free = All-nil (λ o. ¬ (PassesLimit m o));
    offset = refl;
    holds = (low, w refl);
  }
  tested_does (Err arithmetic_error.Memory) h w = tt

-- ---- the operators
pub constant_stands : {n m : ℕ} {a b : Fraction} (p : FracPoly) → n ≡ m → a ≡ b
    → StandsFor n p (constant n a) → StandsFor m p (constant m b)
constant_stands {n = n} {b = b} p e f h = subst (λ k. StandsFor k p (constant k b)) e
    (subst (λ c. StandsFor n p (constant n c)) f h)

pub opposite_does : (at : ℕ) (p s : FracPoly) → StandsFor p.arity s (negate ℚ (terms_in p))
    → Does p.arity (opposite_at at (terms_in p)) (answer_at at (Ok s))
opposite_does at p s h = tested_does p.arity (opposite_at at (terms_in p)) (λ high. high) (Ok s) h
    (λ e. absurd (let z : ⊥ = cc in z))

module _ (at : ℕ) (p q : FracPoly) (r : Result FracPoly ArithmeticError)
    (k : IsInVariables p.arity q) where
  pub sum_does : IfOk r (λ s. StandsFor p.arity s (terms_in p ++ terms_in q))
      → (IsErrOf r arithmetic_error.Wide → IsPastSum fractions (terms_in p) (terms_in q))
      → Does p.arity (sum_at at (terms_in p) (terms_in q)) (answer_at at r)
  sum_does h w = tested_does p.arity (sum_at at (terms_in p) (terms_in q)) (λ high. high) r h
      (λ e. itself p.arity _ (terms_in p) p.polynomial (itself p.arity _ (terms_in q)
      (polynomial_over p.arity q k) (w e)))

  pub difference_does : IfOk r (λ s. StandsFor p.arity s (terms_in p ++ negate ℚ (terms_in q)))
      → (IsErrOf r arithmetic_error.Wide → IsPastSum fractions (terms_in p) (terms_in q))
      → Does p.arity (difference_at at (terms_in p) (terms_in q)) (answer_at at r)
  difference_does h w = tested_does p.arity (difference_at at (terms_in p) (terms_in q)) (λ high.
      high) r h (λ e. itself p.arity _ (terms_in p) p.polynomial (itself p.arity _ (terms_in q)
      (polynomial_over p.arity q k) (w e)))

  pub product_does : (HasHighDegree p.arity (times ℚ (terms_in p) (terms_in q)) → ⊥)
      → IfOk r (λ s. StandsFor p.arity s (times ℚ (terms_in p) (terms_in q)))
      → (IsErrOf r arithmetic_error.Wide → IsPastProduct fractions (terms_in p) (terms_in q))
      → Does p.arity (product_at at (terms_in p) (terms_in q)) (answer_at at r)
  product_does low h w = tested_does p.arity (product_at at (terms_in p) (terms_in q)) low r h
      (λ e. itself p.arity _ (terms_in p) p.polynomial (itself p.arity _ (terms_in q)
      (polynomial_over p.arity q k) (w e)))

pub high_stops : (m at : ℕ) (p q : Terms Fraction) → HasHighDegree m (times ℚ p q)
    → Does m (product_at at p q) (Err (Limit at))
high_stops m at p q h = record {
  before = [];
  operation = product_at at p q;
  behind = [];
  order = refl;
  free = All-nil (λ o. ¬ (PassesLimit m o));
  offset = refl;
  holds = inl h;
}

-- a quotient by n
module _ (m : ℕ) (n : ℤ) where
  abbrev by : Terms Fraction
  by = constant m (inverse (whole n))

  by_is : n ≢ pos 0 → IsPolynomial ℚ grevlex m by
  unfolding constant
  by_is apart = polynomial_one grevlex fractions m _ (inverse (whole n)) (length-zeros m)
      (inverse-ne-zero ℚ_field (whole n) (λ e. apart (whole_injective n (pos 0) e)))

  by_size : weight fractions.size by ≡ fractions.size (inverse (whole n))
  by_size = weight-constant ℚ_ring fractions.size fractions_bounded m (inverse (whole n))

  turned : (p : FracPoly) → (r : Result FracPoly ArithmeticError)
      → IfOk r (λ s. StandsFor m s (times ℚ by (terms_in p)))
      → IfOk r (λ s. StandsFor m s (times ℚ (terms_in p) by))
  turned p (Err e) h = tt
  turned p (Ok s) h = record {
    order = refl;
    arity = h.arity;
    same = product_turned fractions fractions_ring (terms_in p) by by (terms_in s) refl h.same;
  }

pub quotient_does : (at : ℕ) (p : FracPoly) (n : ℤ) (r : Result FracPoly ArithmeticError)
    → n ≢ pos 0
    → IfOk r (λ s. StandsFor p.arity s (times ℚ (constant p.arity (inverse (whole n)))
    (terms_in p)))
    → (IsErrOf r arithmetic_error.Wide
    → IsPast (product_size (fractions.size (inverse (whole n)))
    (weight fractions.size (terms_in p))))
    → Does p.arity (quotient_at p.arity at (terms_in p) n) (answer_at at r)
quotient_does at p n r apart h w =
    tested_does p.arity (quotient_at p.arity at (terms_in p) n) (λ high. high) r
    (turned p.arity n p r h) (λ e. itself p.arity _ (terms_in p) p.polynomial
    (itself p.arity _ (by p.arity n) (by_is p.arity n apart)
    (inl (subst IsPast (product_comm (fractions.size (inverse (whole n)))
    (weight fractions.size (terms_in p))
    ∙ ap (product_size (weight fractions.size (terms_in p))) (sym (by_size p.arity n)))
    (w e)))))
