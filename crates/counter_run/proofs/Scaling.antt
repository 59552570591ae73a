-- Products that begin with a number, and those that begin with 1.
--   scaled_formed      what is formed from 1 within the limits, times a number that isn't 0, is
--                      formed from that number within them
use Rattle.std.proofs.Common.{◌≡◌, ◌≢◌, inl, inr, ℕ, ◌<◌, ◌≤◌, List, [], ◌∷◌, map, length, replicate, sum, refl, sym, ap, ap₂, subst, ◌∙◌, Ok}
use Rattle.std.proofs.lemmas.List.{append-nil, length-map}
use Rattle.std.proofs.lemmas.List.Elements.{All-nil, All-cons, All-head, All-tail, All-map}
use Rattle.algebra.specs.Each.{Each}
use Rattle.algebra.proofs.Growing.{any_mapped}
use Rattle.algebra.proofs.RingLaws.{mul-zero, one-mul}
use Rattle.algebra.specs.Fraction.{Fraction, ℚ, rationals}
use Rattle.algebra.proofs.Fractions.{ℚ_ring, ℚ_field}
use Rattle.polynomials.specs.Algebra as Algebra
use Rattle.polynomials.specs.Degree.{IsDegree}
use Rattle.polynomials.specs.Order.{grevlex}
use Rattle.polynomials.specs.Polynomial.{Arity, AllArity, IsPolynomial}
use Rattle.polynomials.specs.Terms.{Terms, Same, constant, shift, times, value_at}
use Rattle.polynomials.proofs.Arity.{zeros-plus, arity-times, arity-constant}
use Rattle.polynomials.proofs.ByValues.{same_by_values}
use Rattle.polynomials.proofs.Orders.{grevlex_order}
use Rattle.polynomials.proofs.Same.{Same-refl, Same-trans, same_times}
use Rattle.polynomials.proofs.ValueAt.{value_at-times, value_at-constant, value_at_same}
use Rattle.machines.specs.Collect.{scale_terms}
use Rattle.machines.proofs.Monic.{scaled_polynomial}
use Rattle.poly.specs.Seen.{terms_in}
use Rattle.poly.specs.Standing.{StandsFor}
use Rattle.loop_model.specs.FracPoly.{FracPoly}
use Rattle.loop_model.specs.Operations.{Operation, product_at, HoldsCollected, IsHigh, most_terms, PassesLimit, IsFree}
use Rattle.loop_model.specs.Stops.{Forms}
use Rattle.counter_run.specs.Composition.{product_of, product_operations}
use Rattle.counter_run.proofs.Composed.{value-product_of, all_of, arity-product_of}

-- ---- a list with each number times d
module _ (d : Fraction) where
  abbrev times_d : List ℕ × Fraction → List ℕ × Fraction
  times_d t = (t.0, ℚ.mul d t.1)

  scaled-map : (p : Terms Fraction) → scale_terms rationals d p ≡ map times_d p
  unfolding scale_terms
  scaled-map [] = refl
  scaled-map (t ∷ p) = ap (λ q. times_d t ∷ q) (scaled-map p)

  scaled-length : (p : Terms Fraction) → length (scale_terms rationals d p) ≡ length p
  scaled-length p = ap length (scaled-map p) ∙ length-map p times_d

  scaled-shift : (m : ℕ) (p : Terms Fraction) → Arity m p
      → shift ℚ (replicate m 0) d p ≡ scale_terms rationals d p
  unfolding scale_terms Algebra.shift Each
  scaled-shift m [] a = refl
  scaled-shift m (t ∷ p) a =
      ap₂ (λ e q. (e, ℚ.mul d t.1) ∷ q) (zeros-plus m t.0 a.0) (scaled-shift m p a.1)

  scaled-times : (m : ℕ) (p : Terms Fraction) → Arity m p
      → times ℚ (constant m d) p ≡ scale_terms rationals d p
  unfolding constant Algebra.times
  scaled-times m p a = append-nil (shift ℚ (replicate m 0) d p) ∙ scaled-shift m p a

  scaled_degree : (e : ℕ) (p : Terms Fraction) → IsDegree e p
      → IsDegree e (scale_terms rationals d p)
  scaled_degree e p h =
      let (k, t, inside, is, s) = h.reached in
      subst (IsDegree e) (sym (scaled-map p)) (record {
        at_most = All-map (λ (t : List ℕ × Fraction). sum t.0 ≤ e) times_d p h.at_most;
        reached = any_mapped times_d (λ t. sum t.0 ≡ e) p k t inside (sym is) s;
      })

-- ---- products that begin with a number that isn't 0
module _ (m : ℕ) (c : Fraction) (n : c ≢ ℚ.zero) where
  abbrev d : Fraction
  d = ℚ_field.inverse c

  undone : ℚ.mul d c ≡ ℚ.one
  undone = ℚ_ring.mul_comm d c ∙ ℚ_field.mul-inverse c n

  not_zero : d ≢ ℚ.zero
  not_zero z =
      ℚ_field.one-ne-zero
      (sym (ℚ_field.mul-inverse c n) ∙ ap (ℚ.mul c) z ∙ mul-zero ℚ_ring c)

  -- q' is c times q
  abbrev IsTimes : Terms Fraction → Terms Fraction → Type 0
  IsTimes q q' = Same ℚ q' (times ℚ (constant m c) q)

  value-multiple : (p s : _) → value_at ℚ (times ℚ (constant m c) p) s ≡ ℚ.mul c (value_at ℚ p s)
  value-multiple p s =
      value_at-times ℚ_ring (constant m c) p s
      ∙ ap (λ x. ℚ.mul x (value_at ℚ p s)) (value_at-constant ℚ_ring m c s)

  back : (r r' p : Terms Fraction) → Arity m r → IsPolynomial ℚ grevlex m p → Same ℚ p r'
      → IsTimes r r' → Same ℚ (scale_terms rationals d p) r
  back r r' p a is same h =
      same_by_values m (scale_terms rationals d p) r
      (scaled_polynomial ℚ_field grevlex grevlex_order m d not_zero p is).arity a
      (λ s l. ap (λ x. value_at ℚ x s) (sym (scaled-times d m p is.arity))
      ∙ value_at-times ℚ_ring (constant m d) p s
      ∙ ap₂ ℚ.mul (value_at-constant ℚ_ring m d s)
      (value_at_same ℚ_ring p (times ℚ (constant m c) r) s (Same-trans ℚ same h)
      ∙ value-multiple r s)
      ∙ sym (ℚ_ring.mul_assoc d c (value_at ℚ r s))
      ∙ ap (λ x. ℚ.mul x (value_at ℚ r s)) undone ∙ one-mul ℚ_ring (value_at ℚ r s))

  unscaled : (P : Terms Fraction → Type 0)
      → ((p : Terms Fraction) → P p → P (scale_terms rationals d p)) → (r r' : Terms Fraction)
      → Arity m r → IsTimes r r' → HoldsCollected m P r' → HoldsCollected m P r
  unscaled P keeps r r' a h k = record {
    terms = scale_terms rationals d k.terms;
    is = scaled_polynomial ℚ_field grevlex grevlex_order m d not_zero k.terms k.is;
    same = back r r' k.terms a k.is k.same h;
    holds = keeps k.terms k.holds;
  }

  high_unscaled : (p : Terms Fraction) → IsHigh p → IsHigh (scale_terms rationals d p)
  high_unscaled p h =
      record { degree = h.degree; is = scaled_degree d h.degree p h.is; high = h.high }

  long_unscaled : (p : Terms Fraction) → most_terms < length p
      → most_terms < length (scale_terms rationals d p)
  long_unscaled p h = subst (λ k. most_terms < k) (sym (scaled-length d p)) h

  module _ (q q' f : Terms Fraction) (a : Arity m q) (b : Arity m f) (h : IsTimes q q') where
    next_times : IsTimes (times ℚ q f) (times ℚ q' f)
    next_times =
        Same-trans ℚ (same_times ℚ_ring h (Same-refl ℚ f))
        (same_by_values m (times ℚ (times ℚ (constant m c) q) f)
        (times ℚ (constant m c) (times ℚ q f))
        (arity-times m ℚ (times ℚ (constant m c) q) f
        (arity-times m ℚ (constant m c) q (arity-constant m c) a) b)
        (arity-times m ℚ (constant m c) (times ℚ q f) (arity-constant m c)
        (arity-times m ℚ q f a b))
        (λ s l. value_at-times ℚ_ring (times ℚ (constant m c) q) f s
        ∙ ap (λ x. ℚ.mul x (value_at ℚ f s)) (value-multiple q s)
        ∙ ℚ_ring.mul_assoc c (value_at ℚ q s) (value_at ℚ f s)
        ∙ sym (value-multiple (times ℚ q f) s
        ∙ ap (ℚ.mul c) (value_at-times ℚ_ring q f s))))

    passes_unscaled : PassesLimit m (product_at 0 q' f) → PassesLimit m (product_at 0 q f)
    passes_unscaled (inl k) =
        inl (unscaled IsHigh high_unscaled (times ℚ q f) (times ℚ q' f)
        (arity-times m ℚ q f a b) next_times k)
    passes_unscaled (inr k) =
        inr (unscaled (λ p. most_terms < length p) long_unscaled (times ℚ q f) (times ℚ q' f)
        (arity-times m ℚ q f a b) next_times k)

  abbrev IsFreeOne : Operation → Type 0
  IsFreeOne o = ¬ (PassesLimit m o)

  free_times : (q q' : Terms Fraction) (fs : List (Terms Fraction)) → Arity m q → AllArity m fs
      → IsTimes q q' → IsFree m (product_operations q fs) → IsFree m (product_operations q' fs)
  unfolding product_operations Each
  free_times q q' [] a b h k = All-nil IsFreeOne
  free_times q q' (f ∷ fs) a b h k =
      All-cons IsFreeOne (product_at 0 q' f) (product_operations (times ℚ q' f) fs)
      (λ passes. All-head IsFreeOne (product_at 0 q f) (product_operations (times ℚ q f) fs) k
      (passes_unscaled q q' f a b.0 h passes))
      (free_times (times ℚ q f) (times ℚ q' f) fs (arity-times m ℚ q f a b.0) b.1
      (next_times q q' f a b.0 h)
      (All-tail IsFreeOne (product_at 0 q f) (product_operations (times ℚ q f) fs) k))

  module _ (fs : List (Terms Fraction)) (all : AllArity m fs) where
    abbrev from_one : Terms Fraction
    from_one = product_of (constant m ℚ.one) fs

    one_times : IsTimes (constant m ℚ.one) (constant m c)
    one_times =
        same_by_values m (constant m c) (times ℚ (constant m c) (constant m ℚ.one))
        (arity-constant m c)
        (arity-times m ℚ (constant m c) (constant m ℚ.one) (arity-constant m c)
        (arity-constant m ℚ.one))
        (λ s l. value_at-constant ℚ_ring m c s
        ∙ sym (value-multiple (constant m ℚ.one) s
        ∙ ap (ℚ.mul c) (value_at-constant ℚ_ring m ℚ.one s) ∙ ℚ_ring.mul-one c))

    product_times : Same ℚ (times ℚ (constant m c) from_one) (product_of (constant m c) fs)
    product_times =
        same_by_values m (times ℚ (constant m c) from_one) (product_of (constant m c) fs)
        (arity-times m ℚ (constant m c) from_one (arity-constant m c)
        (arity-product_of m (constant m ℚ.one) fs (arity-constant m ℚ.one) all))
        (arity-product_of m (constant m c) fs (arity-constant m c) all)
        (λ s l. value-multiple from_one s
        ∙ ap (ℚ.mul c) (value-product_of s (constant m ℚ.one) fs
        ∙ ap (λ x. ℚ.mul x (all_of s fs)) (value_at-constant ℚ_ring m ℚ.one s)
        ∙ one-mul ℚ_ring (all_of s fs))
        ∙ sym (value-product_of s (constant m c) fs
        ∙ ap (λ x. ℚ.mul x (all_of s fs)) (value_at-constant ℚ_ring m c s)))

    pub scaled_formed : (image next : FracPoly)
        → Forms m (product_operations (constant m ℚ.one) fs) (product_of (constant m ℚ.one) fs)
        (Ok image)
        → StandsFor image.arity next (times ℚ (constant image.arity c) (terms_in image))
        → Forms m (product_operations (constant m c) fs) (product_of (constant m c) fs) (Ok next)
    scaled_formed image next h k =
        let same : Same ℚ (terms_in next) (times ℚ (constant m c) (terms_in image)) =
        subst (λ j. Same ℚ (terms_in next) (times ℚ (constant j c) (terms_in image))) h.0.arity
        k.same in (
          record {
            order = refl;
            arity = k.arity ∙ h.0.arity;
            same =
                Same-trans ℚ same
                (Same-trans ℚ (same_times ℚ_ring (Same-refl ℚ (constant m c)) h.0.same)
                product_times);
          },
          free_times (constant m ℚ.one) (constant m c) fs (arity-constant m ℚ.one) all one_times
              h.1,
        )
