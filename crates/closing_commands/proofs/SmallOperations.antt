-- A test by computation that operations on small numbers pass no limit and fit.
--   small a, low e             the numbers of a weight are below 1000, the exponents e below 20
--   small_holds, low_holds     so it isn't past, and they fit
--   operation_small m o        so it is of an operation on polynomials of m variables, with like terms collected, and of its result
--   all_small_operations m os  of each; then none passes a limit, and none is past
use Rattle.std.proofs.Common.{◌≡◌, inl, inr, ℕ, zero, suc, ◌<◌, ◌≤◌, Bool, true, ltb, eqb, List, [], ◌∷◌, ◌++◌, length, subst, arith}
use Rattle.std.specs.Prelude.{◌&&◌, sum}
use Rattle.std.specs.List.{Any}
use Rattle.std.proofs.lemmas.Bool.{ltb-true, eqb-true, and_parts}
use Rattle.std.proofs.lemmas.List.Elements.{All-nil, All-cons}
use Rattle.algebra.specs.Each.{Each}
use Rattle.algebra.specs.Fraction.{Fraction, fraction_size, fractions, rationals}
use Rattle.algebra.specs.Size.{Size, IsPast, sum_size, product_size}
use Rattle.algebra.proofs.Fractions.{ℚ_field}
use Rattle.polynomials.specs.Exponent.{plus}
use Rattle.polynomials.specs.Order.{grevlex}
use Rattle.polynomials.specs.Polynomial.{Arity}
use Rattle.polynomials.specs.Terms.{Terms}
use Rattle.polynomials.specs.Weight.{weight, degrees, FitsMonomial, IsPastProduct}
use Rattle.polynomials.proofs.Orders.{grevlex_order}
use Rattle.machines.specs.Collect.{collect}
use Rattle.machines.proofs.Collecting.{collect-polynomial, collect-same}
use Rattle.loop_model.specs.Operations.{Kind, summed, multiplied, divided, Operation, most_terms, HoldsCollected, IsHigh, IsTooHighIn, PassesLimit, BothPast, IsPastOperation, IsFree, IsFirst, IsLimit, IsWide}
use Rattle.loop_model.proofs.OperatorLaws.{only}

-- ---- weights and exponents
unfoldable pub small : Size → Bool
small a = ltb a.size 1000 && ltb a.den 1000

pub small_holds : (a : Size) → small a ≡ true → IsPast a → ⊥
unfolding small
small_holds a e past =
    let both = and_parts (ltb a.size 1000) (ltb a.den 1000) e in
    let size = ltb-true a.size 1000 both.0 in
    let den = ltb-true a.den 1000 both.1 in
    elim past [ inl p ↦ omega (arith, size, p) | inr p ↦ omega (arith, den, p) ]

unfoldable pub low : List ℕ → Bool
low [] = true
low (n ∷ e) = ltb n 20 && low e

pub low_holds : (e : List ℕ) → low e ≡ true → FitsMonomial e
unfolding low
low_holds [] h k l = absurd (omega (arith, l))
low_holds (n ∷ e) h zero l =
    let less = ltb-true n 20 (and_parts (ltb n 20) (low e) h).0 in
    omega (arith, less)
low_holds (n ∷ e) h (suc k) l = low_holds e (and_parts (ltb n 20) (low e) h).1 k (omega (arith, l))

abbrev pub weigh : Terms Fraction → Size
weigh = weight fraction_size

-- ---- terms
unfoldable pub in_variables : ℕ → Terms Fraction → Bool
in_variables m [] = true
in_variables m (t ∷ p) = eqb (length t.0) m && in_variables m p

arity_of : (m : ℕ) (p : Terms Fraction) → in_variables m p ≡ true → Arity m p
unfolding in_variables Each
arity_of m [] h = tt
arity_of m (t ∷ p) h =
    let both = and_parts (eqb (length t.0) m) (in_variables m p) h in
    (eqb-true (length t.0) m both.0, arity_of m p both.1)

unfoldable pub low_terms : Terms Fraction → Bool
low_terms [] = true
low_terms (t ∷ p) = ltb (sum t.0) 20 && low_terms p

not_reached : (p : Terms Fraction) → low_terms p ≡ true → (d : ℕ) → 20 ≤ d
    → Any (λ t. sum t.0 ≡ d) p → ⊥
unfolding low_terms
not_reached [] h d high (k, t, less, is, s) = omega (arith, less)
not_reached (u ∷ p) h d high (zero, t, less, is, s) =
    let lower = ltb-true (sum u.0) 20 (and_parts (ltb (sum u.0) 20) (low_terms p) h).0 in
    let same : sum u.0 ≡ d =
    subst (λ (v : List ℕ × Fraction). sum v.0 ≡ d) (let e : t ≡ u = cc in e) s in
    omega (arith, lower, same, high)
not_reached (u ∷ p) h d high (suc k, t, less, is, s) =
    not_reached p (and_parts (ltb (sum u.0) 20) (low_terms p) h).1 d high
    (k, t, omega (arith, less), is, s)

not_high : (p : Terms Fraction) → low_terms p ≡ true → IsHigh p → ⊥
not_high p h high =
    let more = high.high in
    not_reached p h high.degree (omega (arith, more)) high.is.reached

-- ---- an operation
unfoldable pub operands_small : Kind → Terms Fraction → Terms Fraction → Bool
operands_small summed p q = small (sum_size (weigh p) (weigh q))
operands_small multiplied p q =
    small (product_size (weigh p) (weigh q)) && low (plus (degrees p) (degrees q))
operands_small divided p q =
    small (product_size (weigh p) (weigh q)) && low (plus (degrees p) (degrees q))

product_fits : (p q : Terms Fraction)
    → (small (product_size (weigh p) (weigh q)) && low (plus (degrees p) (degrees q))) ≡ true
    → IsPastProduct fractions p q → ⊥
product_fits p q h past =
    let both = and_parts (small (product_size (weigh p) (weigh q)))
    (low (plus (degrees p) (degrees q))) h in
    elim past [
      | inl w ↦ small_holds (product_size (weigh p) (weigh q)) both.0 w
      | inr n ↦ n (low_holds (plus (degrees p) (degrees q)) both.1)
    ]

operands_fit : (m : ℕ) (k : Kind) (p q : Terms Fraction) → operands_small k p q ≡ true
    → BothPast m k p q → ⊥
unfolding operands_small
operands_fit m summed p q h past = small_holds (sum_size (weigh p) (weigh q)) h past
operands_fit m multiplied p q h past = product_fits p q h past
operands_fit m divided p q h past = product_fits p q h past

abbrev pub collected : Terms Fraction → Terms Fraction
collected p = collect rationals grevlex p

unfoldable pub result_small : Terms Fraction → Bool
result_small p = low_terms p && ltb (length p) 50

module _ (m : ℕ) where
  unfoldable pub all_in_variables : Operation → Bool
  all_in_variables o = in_variables m o.left && (in_variables m o.right && in_variables m o.result)

  unfoldable pub operation_small : Operation → Bool
  operation_small o =
      all_in_variables o
      && (result_small (collected o.result)
      && operands_small o.kind (collected o.left) (collected o.right))

  holds_of : (P : Terms Fraction → Type 0) (p : Terms Fraction) → in_variables m p ≡ true
      → HoldsCollected m P p → P (collected p)
  holds_of P p h c =
      only m P (collected p) p
      (collect-polynomial ℚ_field grevlex grevlex_order m p (arity_of m p h))
      (collect-same ℚ_field grevlex grevlex_order p) c

  module _ (o : Operation) (h : operation_small o ≡ true) where
    parts_of : (all_in_variables o ≡ true)
        × ((result_small (collected o.result) ≡ true)
        × (operands_small o.kind (collected o.left) (collected o.right) ≡ true))
    unfolding operation_small
    parts_of =
        let first = and_parts (all_in_variables o) (result_small (collected o.result)
        && operands_small o.kind (collected o.left) (collected o.right)) h in (
          first.0,
          and_parts (result_small (collected o.result))
              (operands_small o.kind (collected o.left) (collected o.right)) first.1,
        )

    variables_of : (in_variables m o.left ≡ true)
        × ((in_variables m o.right ≡ true) × (in_variables m o.result ≡ true))
    unfolding all_in_variables
    variables_of =
        let first = and_parts (in_variables m o.left)
        (in_variables m o.right && in_variables m o.result) parts_of.0 in
        (first.0, and_parts (in_variables m o.right) (in_variables m o.result) first.1)

    low_result : (low_terms (collected o.result) ≡ true)
        × (ltb (length (collected o.result)) 50 ≡ true)
    unfolding result_small
    low_result =
        and_parts (low_terms (collected o.result)) (ltb (length (collected o.result)) 50)
        parts_of.1.0

    high_not : (k : Kind) → IsTooHighIn m k o.result → ⊥
    high_not summed c = c
    high_not multiplied c =
        not_high (collected o.result) low_result.0
        (holds_of IsHigh o.result variables_of.1.1 c)
    high_not divided c = c

    passes_not : PassesLimit m o → ⊥
    passes_not (inl c) = high_not o.kind c
    passes_not (inr c) =
        let few = ltb-true (length (collected o.result)) 50 low_result.1 in
        let many = holds_of (λ p. most_terms < length p) o.result variables_of.1.1 c in
        omega (arith, few, many)

    past_not : IsPastOperation m o → ⊥
    past_not c =
        operands_fit m o.kind (collected o.left) (collected o.right) parts_of.1.1
        (holds_of (λ q. BothPast m o.kind (collected o.left) q) o.right variables_of.1.0
        (holds_of (λ p. HoldsCollected m (λ q. BothPast m o.kind p q) o.right) o.left
        variables_of.0 c))

  -- ---- some operations
  unfoldable pub all_small_operations : List Operation → Bool
  all_small_operations [] = true
  all_small_operations (o ∷ os) = operation_small o && all_small_operations os

  pub small_free : (os : List Operation) → all_small_operations os ≡ true → IsFree m os
  unfolding all_small_operations
  small_free [] h = All-nil (λ o. ¬ (PassesLimit m o))
  small_free (o ∷ os) h =
      let both = and_parts (operation_small o) (all_small_operations os) h in
      All-cons (λ o. ¬ (PassesLimit m o)) o os (passes_not o both.0) (small_free os both.1)

  one_of : (before : List Operation) (o : Operation) (behind : List Operation)
      → all_small_operations (before ++ o ∷ behind) ≡ true → operation_small o ≡ true
  unfolding all_small_operations
  one_of [] o behind h = (and_parts (operation_small o) (all_small_operations behind) h).0
  one_of (b ∷ before) o behind h =
      one_of before o behind (and_parts (operation_small b)
      (all_small_operations (before ++ o ∷ behind)) h).1

  module _ (os : List Operation) (h : all_small_operations os ≡ true) (at : ℕ) where
    first_small : (P : Operation → Type 0) (f : IsFirst m P os at)
        → operation_small f.operation ≡ true
    first_small P f =
        one_of f.before f.operation f.behind (subst (λ qs. all_small_operations qs ≡ true)
        f.order h)

    pub small_unlimited : IsLimit m os at → ⊥
    small_unlimited f = passes_not f.operation (first_small (PassesLimit m) f) f.holds

    pub small_narrow : IsWide m os at → ⊥
    small_narrow f = past_not f.operation (first_small _ f) f.holds.1
