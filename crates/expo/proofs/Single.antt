-- A polynomial of one term.
--   single_is      the one list that is the same as one term;  one_is: 1
--   more_falls, more_made      n + 1
--   minus_nonzero  -1 isn't zero
use Rattle.std.proofs.Common.{◌≡◌, ◌≢◌, ◌<◌, Some, ℕ, zero, suc, ◌+◌, List, [], ◌∷◌, length, replicate, reverse, sum, refl, sym, ap, ap₂, subst, ◌∙◌, arith, Less}
use Rattle.std.proofs.lemmas.List.Sums.{sum_by-cons}
use Rattle.std.specs.List.{slice_get}
use Rattle.polynomials.specs.Exponent.{unit_exponents}
use Rattle.std.specs.Ordering.{nat_cmp, ordering_then}
use Rattle.std.specs.Cmp.Lexicographic.{slice_cmp}
use Rattle.std.proofs.lemmas.Option.{same_Some}
use Rattle.algebra.proofs.Lists.{sum_zeros}
use Rattle.algebra.specs.Each.{Each}
use Rattle.algebra.proofs.RingLaws.{neg-neg, neg-zero}
use Rattle.algebra.specs.Fraction.{Fraction, ℚ}
use Rattle.algebra.proofs.Fractions.{ℚ_ring}
use Rattle.polynomials.specs.Order.{compare, grevlex}
use Rattle.polynomials.specs.Polynomial.{IsPolynomial, Falls}
use Rattle.polynomials.specs.Terms.{Terms, Same, constant}
use Rattle.polynomials.proofs.Arity.{length-zeros}
use Rattle.polynomials.proofs.Canonical.{polynomial_unique}
use Rattle.polynomials.proofs.Orders.{grevlex_order, compare_grevlex}
use Rattle.expo.specs.Images.{more}
use Rattle.expo.proofs.Binomials.{some_natural}

one_term : (w : ℕ) (e : List ℕ) (c : Fraction) → length e ≡ w → c ≢ ℚ.zero
    → IsPolynomial ℚ grevlex w ((e, c) ∷ [])
unfolding Each Falls
one_term w e c l n = record { nonzero = (n, tt); arity = (l, tt); falls = (tt, tt) }

pub single_is : (w : ℕ) (e : List ℕ) (c : Fraction) (q ts : Terms Fraction) → length e ≡ w
    → c ≢ ℚ.zero → IsPolynomial ℚ grevlex w q → Same ℚ q ts → ts ≡ (e, c) ∷ [] → q ≡ (e, c) ∷ []
single_is w e c q ts l n h s t = polynomial_unique grevlex grevlex_order ℚ_ring w w q ((e, c) ∷ [])
    h (one_term w e c l n) (subst (Same ℚ q) t s)

-- 1, and n + 1
one_nonzero : ℚ.one ≢ ℚ.zero
one_nonzero = some_natural 1 ℚ.one (omega arith) refl

pub one_is : (w : ℕ) (q : Terms Fraction) → IsPolynomial ℚ grevlex w q → Same ℚ q (constant w ℚ.one)
    → q ≡ constant w ℚ.one
unfolding constant
one_is w q h s = single_is w (replicate w 0) ℚ.one q (constant w ℚ.one) (length-zeros w) one_nonzero
    h s refl

below_first : (m : ℕ) → compare grevlex (replicate (suc m) 0) (1 ∷ replicate m 0) ≡ Less
below_first m = compare_grevlex (replicate (suc m) 0) (1 ∷ replicate m 0) refl
    ∙ ap₂ (λ a b. ordering_then (nat_cmp a b) (slice_cmp nat_cmp (reverse (1 ∷ replicate m 0))
    (reverse (replicate (suc m) 0)))) (sum_zeros (suc m)) sum-first
  where
    sum-first : sum (1 ∷ replicate m 0) ≡ 1
    sum-first = sum_by-cons _ 1 (replicate m 0) ∙ ap (λ n. 1 + n) (sum_zeros m)

pub minus_nonzero : (x y : Fraction) → x ≡ ℚ.one → y ≡ ℚ.neg x → y ≢ ℚ.zero
minus_nonzero x y e f z = one_nonzero (sym (neg-neg ℚ_ring ℚ.one) ∙ ap ℚ.neg (sym (f ∙ ap ℚ.neg e)
    ∙ z) ∙ neg-zero ℚ_ring)

pub more_falls : (m : ℕ) → IsPolynomial ℚ grevlex m (more m)
unfolding Each Falls
more_falls zero = record { nonzero = tt; arity = tt; falls = tt }
more_falls (suc m) = record {
  nonzero = (one_nonzero, (one_nonzero, tt));
  arity = (ap suc (length-zeros m), (length-zeros (suc m), tt));
  falls = ((below_first m, tt), (tt, tt));
}

pub more_made : (m : ℕ) (e d : List ℕ) (x y : Fraction) → 0 < m → slice_get (unit_exponents m) 0
    ≡ Some e → d ≡ replicate m 0 → x ≡ ℚ.one → y ≡ ℚ.one → (e, x) ∷ (d, y) ∷ [] ≡ more m
unfolding unit_exponents
more_made zero e d x y s u v p q = absurd (omega arith)
more_made (suc m) e d x y s u v p q = λ i. (sym (same_Some _ _ u) i, p i) ∷ (v i, q i) ∷ []
