-- Polynomials stay polynomials with unknowns in front.
--   pad_less                a lesser monomial stays one
--   front_polynomial        so does a polynomial; generators_polynomials: so the generators of a list are polynomials, where its elements and the zeros are
use Rattle.std.proofs.Common.{◌≡◌, ℕ, zero, suc, ◌+◌, List, [], ◌∷◌, ◌++◌, map, length, refl, sym, ap, ap₂, ◌∙◌, arith, Less, nat_cmp}
use Rattle.std.specs.Cmp.Lexicographic.{slice_cmp}
use Rattle.std.specs.Ordering.{ordering_then}
use Rattle.algebra.specs.Each.{Each}
use Rattle.algebra.proofs.Each.{each-append, each-map, each_weaker}
use Rattle.algebra.specs.Fraction.{Fraction, ℚ}
use Rattle.polynomials.specs.Order.{compare, grevlex}
use Rattle.polynomials.specs.Polynomial.{Arity, IsPolynomial, Below, Falls, HasNoZero}
use Rattle.polynomials.specs.Terms.{Terms, retold}
use Rattle.polynomials.proofs.Orders.{slice_cmp-append}
use Rattle.polynomials.proofs.Orders as orders
use Rattle.machines.specs.Elimination.{pad, in_front}
use Rattle.machines.proofs.Padding.{arity-pad}
use Rattle.machines.proofs.Front as front
use Rattle.flows.specs.Graph.{Transition}
use Rattle.flows.specs.Family.{generators}

zeros_added : (xs : List ℕ) → map (λ k. 0 + k) xs ≡ xs
zeros_added [] = refl
zeros_added (x ∷ xs) = let e : 0 + x ≡ x = omega arith in ap₂ ◌∷◌ e (zeros_added xs)

zero_less : (d e : List ℕ) → length d ≡ length e → compare grevlex d e ≡ Less
    → compare grevlex (0 ∷ d) (0 ∷ e) ≡ Less
unfolding compare grevlex
zero_less d e l h =
    ap₂ (λ a b. slice_cmp nat_cmp (a ++ 0 ∷ []) (b ++ 0 ∷ [])) (zeros_added (grevlex d))
    (zeros_added (grevlex e))
    ∙ slice_cmp-append (grevlex d) (0 ∷ []) (grevlex e) (0 ∷ [])
    (orders.length-grevlex d ∙ l ∙ sym (orders.length-grevlex e))
    ∙ ap (λ o. ordering_then o (slice_cmp nat_cmp (0 ∷ []) (0 ∷ []))) h

pub pad_less : (k : ℕ) (d e : List ℕ) → length d ≡ length e → compare grevlex d e ≡ Less
    → compare grevlex (pad k d) (pad k e) ≡ Less
pad_less zero d e l h = h
pad_less (suc k) d e l h =
    zero_less (pad k d) (pad k e) (front.length-pad k d ∙ ap (λ x. k + x) l
    ∙ sym (front.length-pad k e))
    (pad_less k d e l h)

module _ (k m : ℕ) where
  no_zeros : (p : Terms Fraction) → HasNoZero ℚ p → HasNoZero ℚ (in_front k p)
  unfolding Each retold
  no_zeros [] h = tt
  no_zeros (t ∷ p) h = (h.0, no_zeros p h.1)

  stays_below : (e : List ℕ) → length e ≡ m → (p : Terms Fraction) → Arity m p
      → Below grevlex e p → Below grevlex (pad k e) (in_front k p)
  unfolding Each retold
  stays_below e l [] a h = tt
  stays_below e l (t ∷ p) a h = (pad_less k t.0 e (a.0 ∙ sym l) h.0, stays_below e l p a.1 h.1)

  stays_descending : (p : Terms Fraction) → Arity m p → Falls grevlex p
      → Falls grevlex (in_front k p)
  unfolding Each Falls retold
  stays_descending [] a h = tt
  stays_descending (t ∷ p) a h = (stays_below t.0 a.0 p a.1 h.0, stays_descending p a.1 h.1)

  pub front_polynomial : (p : Terms Fraction) → IsPolynomial ℚ grevlex m p
      → IsPolynomial ℚ grevlex (k + m) (in_front k p)
  front_polynomial p h = record {
    nonzero = no_zeros p h.nonzero;
    arity = arity-pad k m p h.arity;
    falls = stays_descending p h.arity h.falls;
  }

pub generators_polynomials : (n : ℕ) (t : Transition) (gs : List (Terms Fraction))
    → Each (IsPolynomial ℚ grevlex n) gs
    → Each (IsPolynomial ℚ grevlex (t.unknowns + n)) t.zeros
    → Each (IsPolynomial ℚ grevlex (t.unknowns + n)) (generators t (λ v. gs))
generators_polynomials n t gs h z =
    each-append (IsPolynomial ℚ grevlex (t.unknowns + n)) (map (in_front t.unknowns) gs) t.zeros
    (each-map (IsPolynomial ℚ grevlex (t.unknowns + n)) (in_front t.unknowns) gs
    (each_weaker (IsPolynomial ℚ grevlex n)
    (λ p. IsPolynomial ℚ grevlex (t.unknowns + n) (in_front t.unknowns p))
    (λ p k. front_polynomial t.unknowns n p k) gs h)) z
