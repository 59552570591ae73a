-- The terms that the table gives solve their recurrence.
--   number-is            the number of exponents is the signed product of powers
--   key_power            its n-th power is the value of its monomial in s, u and v
--   other_solution, equal_solution     the two cases
use Rattle.std.proofs.Common.{◌≡◌, ◌≢◌, ℕ, zero, suc, ℤ, pos, negsuc, Bool, true, false, cond, List, [], ◌∷◌, map, length, replicate, arith, refl, sym, ap, ap₂, ◌∙◌}
use Rattle.exponentials.specs.Base.{Coprime, SameLength}
use Rattle.exponentials.specs.Table.{Solves, IsOther, IsEqual, sum_numbers, other_form, equal_form}
use Rattle.algebra.specs.Arithmetic.{power}
use Rattle.algebra.specs.Ring.{CommRing, Field, operations, of_nat}
use Rattle.algebra.specs.Sum.{sum_over}
use Rattle.algebra.proofs.RingLaws as L
use Rattle.algebra.proofs.RingSolver.{ring_rules, ring}
use Rattle.algebra.proofs.Homs.{id_hom}
use Rattle.algebra.specs.Fraction.{Fraction, ℚ, opposite, inverse}
use Rattle.algebra.proofs.Fractions.{ℚ_ring, ℚ_field}
use Rattle.algebra.proofs.Wholes.{of_nat-whole}
use Rattle.polynomials.specs.Terms.{Terms, monomial_at, evaluate, value_at}
use Rattle.polynomials.proofs.Value.{monomial-zeros}
use Rattle.polynomials.proofs.ValueAt.{value_at-append}
use Rattle.exponentials.proofs.Expo as Expo
use Rattle.exponentials.proofs.Table.{table_other, table_equal}
use Rattle.exponentials.proofs.Unique.{fraction_char0, zero_ideal}
use Rattle.exponentials.specs.Powers.{number, negate_if}
use Rattle.solvable_maps.specs.Expo.{with_key, power_key, up_part, down_part, power_terms, other_terms, equal_terms, IsSolution}
use Rattle.solvable_maps.specs.Iterations.{point}
use Rattle.solvable_maps.proofs.Numbers.{point-is}
use Rattle.solvable_maps.proofs.Operations.{with_parts}
use Rattle.solvable_maps.proofs.Values.{natural}

abbrev R : CommRing Fraction
R = ℚ_ring

abbrev F : Field Fraction
F = ℚ_field

one_value : (e : List ℕ) (k : Fraction) (z : List Fraction) → value_at ℚ ((e, k) ∷ []) z
    ≡ R.mul k (monomial_at (operations R) z e)
unfolding evaluate sum_over
one_value e k z = R.add-zero _

-- ---- the numbers
abbrev ups : List ℕ → List ℤ → Fraction
ups base e = monomial_at (operations R) (map (of_nat R) base) (map up_part e)

abbrev downs : List ℕ → List ℤ → Fraction
downs base e = monomial_at (operations R) (map (λ b. F.inverse (of_nat R b)) base) (map down_part e)

size-is : (base : List ℕ) (e : List ℤ) → Expo.size F fraction_char0 base (
  0,
  map up_part e,
  map down_part e,
) ≡ number base e
unfolding monomial_at power
size-is [] e = R.mul-one R.one
size-is (b ∷ base) [] = R.mul-one R.one
size-is (b ∷ base) (pos n ∷ e) =
    L.mul_swap R (power (operations R) (of_nat R b) n) (ups base e) R.one (downs base e)
    ∙ ap₂ R.mul (R.mul-one (power (operations R) (of_nat R b) n)
    ∙ ap (λ x. power ℚ x n) (of_nat-whole b)) (size-is base e)
size-is (b ∷ base) (negsuc n ∷ e) =
    L.mul_swap R R.one (ups base e) (power (operations R) (F.inverse (of_nat R b)) (suc n))
    (downs base e)
    ∙ ap₂ R.mul (L.one-mul R (power (operations R) (F.inverse (of_nat R b)) (suc n))
    ∙ ap (λ x. power ℚ (inverse x) (suc n)) (of_nat-whole b)) (size-is base e)

pub number-is : (base : List ℕ) (negative : Bool) (e : List ℤ)
    → Expo.number F fraction_char0 base (power_key negative e) ≡ negate_if negative (number base e)
unfolding power
number-is base false e = L.one-mul R _ ∙ size-is base e
number-is base true e = ap (R.mul (R.mul (R.neg R.one) R.one)) (size-is base e)
    ∙ minus (number base e)
  where
    minus : (x : Fraction) → R.mul (R.mul (R.neg R.one) R.one) x ≡ R.neg x
    minus x = ring R (x ∷ []) (search ring_rules depth 40) refl

pub fits_up : (base : List ℕ) (e : List ℤ) → length e ≡ length base
    → SameLength base (map up_part e)
fits_up [] [] l = tt
fits_up [] (z ∷ e) l = absurd (omega arith)
fits_up (b ∷ base) [] l = absurd (omega arith)
fits_up (b ∷ base) (z ∷ e) l = fits_up base e (omega arith)

pub fits_down : (base : List ℕ) (e : List ℤ) → length e ≡ length base
    → SameLength base (map down_part e)
fits_down [] [] l = tt
fits_down [] (z ∷ e) l = absurd (omega arith)
fits_down (b ∷ base) [] l = absurd (omega arith)
fits_down (b ∷ base) (z ∷ e) l = fits_down base e (omega arith)

module _ (base : List ℕ) (c : Coprime base) (m : ℕ) where
  pub key_power : (negative : Bool) (e : List ℤ) (n : ℕ)
      → R.mul (power (operations R) (power (operations R) (R.neg R.one) n) (cond negative 1 0))
      (R.mul (monomial_at (operations R) (map (λ b. power (operations R) (of_nat R b) n) base)
      (map up_part e))
      (monomial_at (operations R) (map (λ b. power (operations R) (F.inverse (of_nat R b)) n)
      base) (map down_part e)))
      ≡ power (operations R) (negate_if negative (number base e)) n
  key_power negative e n =
      Expo.number-power F fraction_char0 R (id_hom R) (λ z. z ≡ R.zero) (zero_ideal R) base c {W =
      ℕ} (λ k. k) (λ k. power_key negative e) (λ k. R.zero) n (power_key negative e)
      ∙ ap (λ z. power (operations R) z n) (number-is base negative e)

  -- one term
  term-is : (negative : Bool) (e : List ℤ) → length e ≡ length base
      → (k : Fraction) (i n : ℕ) (s : List Fraction)
      → R.mul k (monomial_at (operations R) (natural F base n s) (with_key i (power_key negative e)
      (replicate m 0))) ≡ R.mul (R.mul k (power (operations R) (of_nat R n) i))
      (power (operations R) (negate_if negative (number base e)) n)
  term-is negative e l k i n s =
      with_parts R base s (of_nat R n) (power (operations R) (R.neg R.one) n)
      (λ b. power (operations R) (of_nat R b) n)
      (λ b. power (operations R) (F.inverse (of_nat R b)) n) k i (power_key negative e)
      (replicate m 0) (fits_up base e l) (fits_down base e l)
      ∙ ap₂ (λ x y. R.mul (R.mul k x) (R.mul (power (operations R) (of_nat R n) i) y))
      (monomial-zeros R m s) (key_power negative e n)
      ∙ iteration k (power (operations R) (of_nat R n) i)
      (power (operations R) (negate_if negative (number base e)) n)
    where
      iteration : (k p q : Fraction) → R.mul (R.mul k R.one) (R.mul p q) ≡ R.mul (R.mul k p) q
      iteration k p q = ring R (k ∷ p ∷ q ∷ []) (search ring_rules depth 40) refl

  terms-are : (negative : Bool) (e : List ℤ) → length e ≡ length base
      → (q : ℕ → Fraction) (lo k n : ℕ) (s : List Fraction)
      → value_at ℚ (power_terms m (power_key negative e) q lo k) (natural F base n s)
      ≡ R.mul (sum_numbers R (λ i. R.mul (q i) (power (operations R) (of_nat R n) i)) lo k)
      (power (operations R) (negate_if negative (number base e)) n)
  unfolding evaluate sum_over
  terms-are negative e l q lo zero n s =
      sym (L.zero-mul R (power (operations R) (negate_if negative (number base e)) n))
  terms-are negative e l q lo (suc k) n s = ap₂ R.add (term-is negative e l (q lo) lo n s)
      (terms-are negative e l q (suc lo) k n s)
      ∙ sym (L.add-mul R (R.mul (q lo) (power (operations R) (of_nat R n) lo))
      (sum_numbers R (λ i. R.mul (q i) (power (operations R) (of_nat R n) i)) (suc lo) k)
      (power (operations R) (negate_if negative (number base e)) n))

  -- from a sequence to its polynomial
  solution_of : (a : ℕ) (σ l : Fraction) (y : ℕ → Fraction) (p : Terms Fraction) → Solves F σ l a y
      → ((n : ℕ) (s : List Fraction) → value_at ℚ p (natural F base n s) ≡ y n)
      → IsSolution base m a σ l p
  solution_of a σ l y p h e = record {
    start = λ s k. at 0 s ∙ h.start;
    next = λ n s k. at (suc n) s ∙ h.next n
        ∙ ap₂ (λ x z.
        R.add (R.mul l x) (R.mul (power (operations R) z a) (power (operations R) σ n)))
        (sym (at n s)) (of_nat-whole n);
  }
    where
      at : (n : ℕ) (s : List Fraction) → value_at ℚ p (point base n s) ≡ y n
      at n s = ap (value_at ℚ p) (point-is base n s) ∙ e n s

  pub other_solution : (a : ℕ) (negative negative' : Bool) (e e' : List ℤ) → length e ≡ length base
      → length e' ≡ length base → negate_if negative (number base e) ≢ negate_if negative'
      (number base e') → (q : ℕ → Fraction)
      → IsOther F (negate_if negative (number base e)) (negate_if negative' (number base e')) a q
      → IsSolution base m a (negate_if negative (number base e))
      (negate_if negative' (number base e'))
      (other_terms m (power_key negative e) (power_key negative' e') a q)
  other_solution a negative negative' e e' l l' ne q h =
      solution_of a (negate_if negative (number base e)) (negate_if negative' (number base e'))
      (other_form R (negate_if negative (number base e)) (negate_if negative' (number base e')) a q)
      _
      (table_other F fraction_char0 _ _ ne a q h)
      (λ n s.
      value_at-append R (power_terms m (power_key negative e) q 0 (suc a)) _ (natural F base n s)
      ∙ ap₂ R.add (terms-are negative e l q 0 (suc a) n s) (last n s))
    where
      minus : (k p : Fraction) → R.mul (R.mul (R.neg k) R.one) p ≡ R.neg (R.mul k p)
      minus k p = ring R (k ∷ p ∷ []) (search ring_rules depth 40) refl

      last : (n : ℕ) (s : List Fraction)
          → value_at ℚ ((with_key 0 (power_key negative' e') (replicate m 0), opposite (q 0)) ∷ [])
          (natural F base n s)
          ≡ R.neg (R.mul (q 0) (power (operations R) (negate_if negative' (number base e')) n))
      last n s =
          one_value (with_key 0 (power_key negative' e') (replicate m 0)) (opposite (q 0))
          (natural F base n s)
          ∙ term-is negative' e' l' (R.neg (q 0)) 0 n s
          ∙ ap (λ z. R.mul (R.mul (R.neg (q 0)) z)
          (power (operations R) (negate_if negative' (number base e')) n))
          (L.power-zero R (of_nat R n))
          ∙ minus (q 0) (power (operations R) (negate_if negative' (number base e')) n)

  pub equal_solution : (a : ℕ) (negative : Bool) (e : List ℤ) → length e ≡ length base
      → negate_if negative (number base e) ≢ ℚ.zero → (q : ℕ → Fraction)
      → IsEqual F (negate_if negative (number base e)) a q
      → IsSolution base m a (negate_if negative (number base e))
      (negate_if negative (number base e))
      (equal_terms m (power_key negative e) a q)
  equal_solution a negative e l ne q h =
      solution_of a (negate_if negative (number base e)) (negate_if negative (number base e))
      (equal_form R (negate_if negative (number base e)) a q) _
      (table_equal F fraction_char0 _ ne a q h)
      (λ n s. terms-are negative e l q 0 (suc (suc a)) n s)
