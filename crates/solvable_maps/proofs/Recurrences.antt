-- Recurrences among the polynomials in n, s, u, v and the variables.
--   recurrence_more       of an inhomogeneity with one term more, and the solution of that term behind the others
--   recurrence_same       of another polynomial with the same values
--   term_solved           a term's solution: that of its powers of n and of a number, times its number and its variables
--   growing_solved        a number's n-th power times a form of variables, which needs no inhomogeneity
--   no_value, one_value, term_value     the value of no term, of one, and of one by its powers of n and of a number
use Rattle.std.proofs.Common.{◌≡◌, ℕ, zero, suc, ℤ, pos, Bool, false, List, [], ◌∷◌, ◌++◌, map, length, replicate, refl, sym, ap, ap₂, ◌∙◌}
use Rattle.algebra.specs.Arithmetic.{power}
use Rattle.algebra.specs.Ring.{CommRing, operations, of_nat}
use Rattle.algebra.specs.Sum.{sum_over}
use Rattle.algebra.proofs.RingLaws as L
use Rattle.algebra.proofs.RingSolver.{ring_rules, ring}
use Rattle.algebra.specs.Fraction.{Fraction, ℚ, whole}
use Rattle.algebra.proofs.Fractions.{ℚ_ring, ℚ_field}
use Rattle.polynomials.specs.Terms.{Terms, times, evaluate, value_at, monomial_at}
use Rattle.polynomials.proofs.ValueAt.{value_at-append, value_at-times}
use Rattle.exponentials.specs.Base.{Coprime}
use Rattle.exponentials.specs.Keys.{key_of, top}
use Rattle.exponentials.specs.Powers.{number, negate_if}
use Rattle.solvable_maps.specs.Expo.{tail, power_key, IsSolution}
use Rattle.solvable_maps.specs.AfterIterations.{HasRecurrence}
use Rattle.solvable_maps.specs.Iterations.{point}
use Rattle.solvable_maps.proofs.Numbers.{point-is}
use Rattle.solvable_maps.proofs.Operations.{term_parts}
use Rattle.solvable_maps.proofs.Solving.{key_power}
use Rattle.solvable_maps.proofs.Values as Values
use Rattle.algebra.proofs.Wholes.{of_nat-whole}

abbrev R : CommRing Fraction
R = ℚ_ring

pub one_value : (t : List ℕ × Fraction) (z : List Fraction)
    → value_at ℚ (t ∷ []) z ≡ ℚ.mul t.1 (monomial_at ℚ z t.0)
unfolding evaluate sum_over
one_value t z = R.add-zero _

pub no_value : (z : List Fraction) → value_at ℚ [] z ≡ ℚ.zero
unfolding evaluate sum_over
no_value z = refl

module _ (base : List ℕ) (m : ℕ) (l : Fraction) where
  abbrev none : List Fraction → Fraction
  none s = ℚ.zero

  pub recurrence_more : (start : List Fraction → Fraction) (q y r p : Terms Fraction)
      → HasRecurrence base m l q start y → HasRecurrence base m l r none p
      → HasRecurrence base m l (q ++ r) start (y ++ p)
  recurrence_more start q y r p h k = record {
    first = λ s e. value_at-append R y p (point base 0 s) ∙ ap₂ R.add (h.first s e) (k.first s e)
        ∙ R.add-zero (start s);
    next = λ n s e.
        value_at-append R y p (point base (suc n) s) ∙ ap₂ R.add (h.next n s e) (k.next n s e)
        ∙ swap l (value_at ℚ y (point base n s)) (value_at ℚ q (point base n s))
        (value_at ℚ p (point base n s)) (value_at ℚ r (point base n s))
        ∙ ap₂ (λ a b. R.add (R.mul l a) b) (sym (value_at-append R y p (point base n s)))
        (sym (value_at-append R q r (point base n s)));
  }
    where
      swap : (l y g z h : Fraction) → R.add (R.add (R.mul l y) g) (R.add (R.mul l z) h)
          ≡ R.add (R.mul l (R.add y z)) (R.add g h)
      swap l y g z h = ring R (l ∷ y ∷ g ∷ z ∷ h ∷ []) (search ring_rules depth 40) refl

  pub recurrence_same : (start : List Fraction → Fraction) (q y p : Terms Fraction)
      → HasRecurrence base m l q start y → ((n : ℕ) (s : List Fraction)
      → value_at ℚ p (point base n s) ≡ value_at ℚ y (point base n s))
      → HasRecurrence base m l q start p
  recurrence_same start q y p h e = record {
    first = λ s k. e 0 s ∙ h.first s k;
    next = λ n s k. e (suc n) s ∙ h.next n s k
        ∙ ap (λ a. R.add (R.mul l a) (value_at ℚ q (point base n s))) (sym (e n s));
  }

  -- a solution of n^a σ^n times what does not change with n
  pub scaled_solved : (a : ℕ) (inhomogeneity : Fraction) (y p r : Terms Fraction)
      (steady : List Fraction
      → Fraction) → IsSolution base m a inhomogeneity l y
      → ((n : ℕ) (s : List Fraction) → value_at ℚ p (point base n s) ≡ steady s)
      → ((n : ℕ) (s : List Fraction) → value_at ℚ r (point base n s) ≡ ℚ.mul (steady s)
      (ℚ.mul (power ℚ (whole (pos n)) a) (power ℚ inhomogeneity n)))
      → HasRecurrence base m l r none (times ℚ y p)
  scaled_solved a inhomogeneity y p r steady h ps rs = record {
    first = λ s k. value_at-times R y p (point base 0 s)
        ∙ ap (λ x. R.mul x (value_at ℚ p (point base 0 s))) (h.start s k)
        ∙ L.zero-mul R (value_at ℚ p (point base 0 s));
    next = λ n s k.
        value_at-times R y p (point base (suc n) s) ∙ ap₂ R.mul (h.next n s k) (ps (suc n) s)
        ∙ iteration l (value_at ℚ y (point base n s)) (ℚ.mul (power ℚ (whole (pos n)) a)
        (power ℚ inhomogeneity n)) (steady s)
        ∙ ap₂ (λ a b. R.add (R.mul l a) b) (sym (value_at-times R y p (point base n s)
        ∙ ap (R.mul (value_at ℚ y (point base n s))) (ps n s))) (sym (rs n s));
  }
    where
      iteration : (l y g c : Fraction) → R.mul (R.add (R.mul l y) g) c ≡ R.add (R.mul l (R.mul y c))
          (R.mul c g)
      iteration l y g c = ring R (l ∷ y ∷ g ∷ c ∷ []) (search ring_rules depth 40) refl

-- ---- the value of a term by its parts
module _ (base : List ℕ) (c : Coprime base) where
  pub term_value : (t : List ℕ × Fraction) (negative : Bool) (e : List ℤ) → key_of (length base) t.0
      ≡ power_key negative e → (n : ℕ) (s : List Fraction)
      → value_at ℚ (t ∷ []) (point base n s)
      ≡ ℚ.mul (ℚ.mul t.1 (monomial_at ℚ s (tail (length base) t.0)))
      (ℚ.mul (power ℚ (whole (pos n)) (top t.0)) (power ℚ (negate_if negative (number base e)) n))
  term_value t negative e key n s =
      ap (value_at ℚ (t ∷ [])) (point-is base n s)
      ∙ one_value t (Values.natural ℚ_field base n s)
      ∙ term_parts R base s (of_nat R n) (power (operations R) (R.neg R.one) n)
      (λ b. power (operations R) (of_nat R b) n)
      (λ b. power (operations R) (ℚ_field.inverse (of_nat R b)) n) t.1 t.0
      ∙ ap₂ (λ x z. R.mul (R.mul t.1 (monomial_at ℚ s (tail (length base) t.0)))
      (R.mul (power ℚ x (top t.0)) z)) (of_nat-whole n)
      (ap (λ x. R.mul (power (operations R) (power (operations R) (R.neg R.one) n) x.0)
      (R.mul (monomial_at (operations R) (map (λ b. power (operations R) (of_nat R b) n)
      base) x.1)
      (monomial_at (operations R)
      (map (λ b. power (operations R) (ℚ_field.inverse (of_nat R b)) n) base) x.2))) key
      ∙ key_power base c 0 negative e n)

  module _ (m : ℕ) (l : Fraction) where
    -- the solution of a term: p has its number and its variables
    pub term_solved : (t p : List ℕ × Fraction) (negative : Bool) (e : List ℤ) (y : Terms Fraction)
        → key_of (length base) t.0 ≡ power_key negative e
        → key_of (length base) p.0 ≡ power_key false (replicate (length base) (pos 0)) → top p.0 ≡ 0
        → tail (length base) p.0 ≡ tail (length base) t.0 → p.1 ≡ t.1
        → IsSolution base m (top t.0) (negate_if negative (number base e)) l y
        → HasRecurrence base m l (t ∷ []) (λ s. ℚ.zero) (times ℚ y (p ∷ []))
    term_solved t p negative e y key own none_left same number_is h =
        scaled_solved base m l (top t.0) (negate_if negative (number base e)) y (p ∷ []) (t ∷ [])
        (λ s. ℚ.mul t.1 (monomial_at ℚ s (tail (length base) t.0))) h
        (λ n s.
        term_value p false (replicate (length base) (pos 0)) own n s
        ∙ ap₂ (λ x z. R.mul x z) (ap₂ (λ k d. R.mul k (monomial_at ℚ s d)) number_is same)
        (ap₂ R.mul (ap (power ℚ (whole (pos n))) none_left ∙ L.power-zero R (whole (pos n)))
        (ap (λ x. power ℚ x n) (ones base) ∙ one_power n) ∙ R.mul-one R.one)
        ∙ R.mul-one _)
        (λ n s. term_value t negative e key n s)
      where
        ones : (bs : List ℕ) → number bs (replicate (length bs) (pos 0)) ≡ R.one
        ones [] = refl
        ones (b ∷ bs) = ap₂ R.mul (L.power-zero R (whole (pos b))) (ones bs) ∙ R.mul-one R.one

        one_power : (n : ℕ) → power ℚ R.one n ≡ R.one
        one_power zero = L.power-zero R R.one
        one_power (suc n) = L.power-suc R R.one n ∙ ap (R.mul R.one) (one_power n) ∙ R.mul-one R.one

    -- a number's n-th power times what does not change
    pub growing_solved : (negative : Bool) (e : List ℤ) → negate_if negative (number base e) ≡ l
        → (y : Terms Fraction) (start : List Fraction → Fraction)
        → ((n : ℕ) (s : List Fraction) → length s ≡ m → value_at ℚ y (point base n s)
        ≡ ℚ.mul (power ℚ (negate_if negative (number base e)) n) (start s))
        → HasRecurrence base m l [] start y
    growing_solved negative e own y start h = record {
      first = λ s k. h 0 s k
          ∙ ap (λ x. R.mul x (start s)) (L.power-zero R (negate_if negative (number base e)))
          ∙ L.one-mul R (start s);
      next = λ n s k.
          h (suc n) s k
          ∙ ap (λ x. R.mul x (start s)) (L.power-suc R (negate_if negative (number base e)) n)
          ∙ R.mul_assoc (negate_if negative (number base e))
          (power ℚ (negate_if negative (number base e))
          n) (start s)
          ∙ ap₂ R.mul own (sym (h n s k))
          ∙ sym (ap (R.add (R.mul l (value_at ℚ y (point base n s)))) (no_value (point base n s))
          ∙ R.add-zero _);
    }
