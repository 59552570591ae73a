-- The maps of one variable 2 x, -x and x: what is asked of their numbers.
--   double_scaled, minus_scaled, one_scaled      IsScaled
--   double_narrow, minus_narrow, one_narrow      IsNarrow: their products with 1 fit
use Rattle.std.proofs.Common.{◌≡◌, inl, inr, ℕ, zero, suc, pos, negsuc, [], ◌∷◌, refl, sym, ap, ◌∙◌, arith}
use Rattle.algebra.specs.Arithmetic.{power}
use Rattle.algebra.specs.Each.{Each}
use Rattle.algebra.specs.Gcd.{gcd, lcm}
use Rattle.algebra.specs.Ratio.{is_lowest, reduce}
use Rattle.algebra.specs.Ring.{CommRing}
use Rattle.algebra.specs.Size.{size}
use Rattle.algebra.specs.Sum.{sum_over}
use Rattle.algebra.proofs.RingLaws.{one-mul}
use Rattle.algebra.proofs.RingSolver.{ring_rules, ring}
use Rattle.algebra.specs.Fraction as Fraction
use Rattle.algebra.specs.Fraction.{Fraction, fraction, whole, ℚ}
use Rattle.algebra.proofs.Fractions.{ℚ_ring, ℚ_field}
use Rattle.algebra.proofs.Wholes.{whole_injective}
use Rattle.polynomials.specs.Polynomial.{Falls}
use Rattle.polynomials.specs.Terms.{evaluate, monomial_at, sum_of_products}
use Rattle.frac128.specs.Sums.{left_past, right_past, parts_past, den_past}
use Rattle.closed_forms.specs.Products.{IsPastDot}
use Rattle.analysis_commands.proofs.ScaledMap.{one, IsScaled}
use Rattle.analysis_commands.proofs.ScaledUnrefused.{fits, IsNarrow}

abbrev pub two : Fraction
two = whole (pos 2)

abbrev pub minus : Fraction
minus = whole (negsuc 0)

module _ {A : Type 0} (R : CommRing A) where
  open R use {one as 𝟙, zero as 𝟘, add as ◌⊕◌, mul as ◌⊗◌}

  infixl 60 ◌⊕◌
  infixl 70 ◌⊗◌
  double_at : (u x : A) → 𝟙 ⊗ (𝟙 ⊗ (𝟙 ⊗ ((u ⊗ 𝟙) ⊗ (𝟙 ⊗ ((x ⊗ 𝟙) ⊗ 𝟙))))) ⊕ 𝟘 ≡ u ⊗ x
  double_at u x = ring R (u ∷ x ∷ []) (search ring_rules depth 40) refl

  minus_at : (s x : A) → 𝟙 ⊗ (𝟙 ⊗ ((s ⊗ 𝟙) ⊗ ((x ⊗ 𝟙) ⊗ 𝟙))) ⊕ 𝟘 ≡ s ⊗ x
  minus_at s x = ring R (s ∷ x ∷ []) (search ring_rules depth 40) refl

  one_at : (x : A) → 𝟙 ⊗ (𝟙 ⊗ (𝟙 ⊗ ((x ⊗ 𝟙) ⊗ 𝟙))) ⊕ 𝟘 ≡ x
  one_at x = ring R (x ∷ []) (search ring_rules depth 40) refl

pub double_scaled : IsScaled two (2 ∷ []) (0 ∷ 0 ∷ 1 ∷ 0 ∷ 1 ∷ [])
unfolding Each Falls evaluate sum_over monomial_at power fraction is_lowest gcd
double_scaled = record {
  some = λ e. (let z : pos 2 ≡ pos 0 = whole_injective (pos 2) (pos 0) e in cc);
  coprime = (omega arith, tt, tt);
  ascending = (tt, tt);
  numerator = record { exponents = 1 ∷ []; fits = tt; is = refl };
  denominator = record { exponents = 0 ∷ []; fits = tt; is = refl };
  positive = (omega arith, omega arith);
  inside = λ x i. elim i [ inl e ↦ inl e | inr n ↦ absurd n ];
  normal = record {
    polynomial = record {
      nonzero = (ℚ_field.one-ne-zero, tt);
      arity = (refl, tt);
      falls =
          (tt, tt);
    };
    normal = ((omega arith, tt, tt, (inr refl, tt)), tt);
  };
  values = λ n x. double_at ℚ_ring (power ℚ two n) x;
}

pub minus_scaled : IsScaled minus [] (0 ∷ 1 ∷ 1 ∷ [])
unfolding Each Falls evaluate sum_over monomial_at power fraction is_lowest gcd
minus_scaled = record {
  some = λ e. (let z : negsuc 0 ≡ pos 0 = whole_injective (negsuc 0) (pos 0) e in cc);
  coprime = tt;
  ascending = tt;
  numerator = record { exponents = []; fits = tt; is = refl };
  denominator = record { exponents = []; fits = tt; is = refl };
  positive = (omega arith, omega arith);
  inside = λ x i. absurd i;
  normal = record {
    polynomial = record {
      nonzero = (ℚ_field.one-ne-zero, tt);
      arity = (refl, tt);
      falls =
          (tt, tt);
    };
    normal = ((omega arith, tt, tt, tt), tt);
  };
  values = λ n x. minus_at ℚ_ring (power ℚ minus n) x;
}

pub ones : (n : ℕ) → power ℚ one n ≡ one
unfolding power
ones zero = refl
ones (suc n) = one-mul ℚ_ring (power ℚ one n) ∙ ones n

pub one_scaled : IsScaled one [] (0 ∷ 0 ∷ 1 ∷ [])
unfolding Each Falls evaluate sum_over monomial_at power fraction is_lowest gcd
one_scaled = record {
  some = ℚ_field.one-ne-zero;
  coprime = tt;
  ascending = tt;
  numerator = record { exponents = []; fits = tt; is = refl };
  denominator = record { exponents = []; fits = tt; is = refl };
  positive = (omega arith, omega arith);
  inside = λ x i. absurd i;
  normal = record {
    polynomial = record {
      nonzero = (ℚ_field.one-ne-zero, tt);
      arity = (refl, tt);
      falls =
          (tt, tt);
    };
    normal = ((omega arith, tt, tt, tt), tt);
  };
  values = λ n x. one_at ℚ_ring x ∙ sym (ap (λ c. ℚ.mul c x) (ones n) ∙ one-mul ℚ_ring x);
}

pub double_narrow : IsNarrow two
unfolding fraction Fraction.sum Fraction.product is_lowest reduce gcd lcm sum_of_products
double_narrow = record { before = before; behind = behind }
  where
    before : IsPastDot (one ∷ []) (two ∷ []) → ⊥
    before (inl p) = fits (size 2 1) (omega arith) (omega arith) p
    before (inr (inl (left_past l))) = omega (arith, l)
    before (inr (inl (right_past l))) = omega (arith, l)
    before (inr (inl (parts_past l))) = omega (arith, l)
    before (inr (inl (den_past l))) = omega (arith, l)
    before (inr (inr h)) = h

    behind : IsPastDot (two ∷ []) (one ∷ []) → ⊥
    behind (inl p) = fits (size 2 1) (omega arith) (omega arith) p
    behind (inr (inl (left_past l))) = omega (arith, l)
    behind (inr (inl (right_past l))) = omega (arith, l)
    behind (inr (inl (parts_past l))) = omega (arith, l)
    behind (inr (inl (den_past l))) = omega (arith, l)
    behind (inr (inr h)) = h

pub minus_narrow : IsNarrow minus
unfolding fraction Fraction.sum Fraction.product is_lowest reduce gcd lcm sum_of_products
minus_narrow = record { before = before; behind = behind }
  where
    before : IsPastDot (one ∷ []) (minus ∷ []) → ⊥
    before (inl p) = fits (size 1 1) (omega arith) (omega arith) p
    before (inr (inl (left_past l))) = omega (arith, l)
    before (inr (inl (right_past l))) = omega (arith, l)
    before (inr (inl (parts_past l))) = omega (arith, l)
    before (inr (inl (den_past l))) = omega (arith, l)
    before (inr (inr h)) = h

    behind : IsPastDot (minus ∷ []) (one ∷ []) → ⊥
    behind (inl p) = fits (size 1 1) (omega arith) (omega arith) p
    behind (inr (inl (left_past l))) = omega (arith, l)
    behind (inr (inl (right_past l))) = omega (arith, l)
    behind (inr (inl (parts_past l))) = omega (arith, l)
    behind (inr (inl (den_past l))) = omega (arith, l)
    behind (inr (inr h)) = h

pub one_narrow : IsNarrow one
unfolding fraction Fraction.sum Fraction.product is_lowest reduce gcd lcm sum_of_products
one_narrow = record { before = dot; behind = dot }
  where
    dot : IsPastDot (one ∷ []) (one ∷ []) → ⊥
    dot (inl p) = fits (size 1 1) (omega arith) (omega arith) p
    dot (inr (inl (left_past l))) = omega (arith, l)
    dot (inr (inl (right_past l))) = omega (arith, l)
    dot (inr (inl (parts_past l))) = omega (arith, l)
    dot (inr (inl (den_past l))) = omega (arith, l)
    dot (inr (inr h)) = h
