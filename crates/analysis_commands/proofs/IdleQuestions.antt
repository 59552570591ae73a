-- Questions to the loop of one variable that does nothing: is x zero, less itself, and is it zero.
--   yes_question at, no_question at     x - x, and x - 0
--   yes_stops, no_stops     no operation of their polynomials passes a limit or is past
--   alone at o ..           of one operation, the one that a list of them has
use Rattle.std.proofs.Common.{◌≡◌, inl, inr, ℕ, ◌<◌, pos, List, [], ◌∷◌, ◌++◌, length, refl, sym, ap, subst, ◌∙◌, arith, All}
use Rattle.std.proofs.lemmas.List.Elements.{All-nil, All-cons}
use Rattle.algebra.specs.Each.{Each}
use Rattle.algebra.proofs.Basics.{same_head}
use Rattle.algebra.specs.Gcd.{gcd, lcm}
use Rattle.algebra.specs.Ratio.{is_lowest, reduce}
use Rattle.algebra.specs.Size.{size}
use Rattle.algebra.specs.Fraction as Fraction
use Rattle.algebra.specs.Fraction.{Fraction, fraction, fractions, rationals, whole, ℚ}
use Rattle.algebra.proofs.Fractions.{ℚ_field}
use Rattle.polynomials.specs.Algebra as Algebra
use Rattle.polynomials.specs.Exponent.{unit_exponents}
use Rattle.polynomials.specs.Order.{compare, grevlex}
use Rattle.polynomials.specs.Polynomial.{Falls, IsPolynomial}
use Rattle.polynomials.specs.Terms.{Terms, Same, constant, variables, negate}
use Rattle.polynomials.specs.Weight.{weight, IsPastSum}
use Rattle.polynomials.proofs.Orders.{grevlex_order}
use Rattle.polynomials.proofs.Same.{Same-refl}
use Rattle.machines.specs.Collect.{collect, insert, place}
use Rattle.machines.proofs.Collecting.{collect-same}
use Rattle.loops.specs.Effect.{value_of}
use Rattle.loops.specs.Program.{Expr, sub, variable, number}
use Rattle.loop_model.specs.Operations.{Operation, HoldsCollected, difference_at, operations, value, most_terms, PassesLimit, IsPastOperation, IsFree, IsWide}
use Rattle.loop_model.proofs.OperatorLaws.{only}
use Rattle.analysis_commands.proofs.ScaledMap.{one}
use Rattle.analysis_commands.proofs.ScaledUnrefused.{fits}

abbrev pub yes_question : ℕ → Expr ℕ
yes_question at = sub at (variable 0) (variable 0)

abbrev pub no_question : ℕ → Expr ℕ
no_question at = sub at (variable 0) (number (pos 0))

abbrev pub x : Terms Fraction
x = (1 ∷ [], one) ∷ []

abbrev nought : Terms Fraction
nought = (0 ∷ [], whole (pos 0)) ∷ []

x_polynomial : IsPolynomial ℚ grevlex 1 x
unfolding Each Falls
x_polynomial = record { nonzero = (ℚ_field.one-ne-zero, tt); arity = (refl, tt); falls = (tt, tt) }

none_polynomial : IsPolynomial ℚ grevlex 1 []
unfolding Each Falls
none_polynomial = record { nonzero = tt; arity = tt; falls = tt }

-- ---- what is formed
yes_operations : (at : ℕ)
    → operations 1 (variables ℚ 1) (yes_question at) ≡ difference_at at x x ∷ []
unfolding operations value_of variables unit_exponents
yes_operations at = refl

no_operations : (at : ℕ)
    → operations 1 (variables ℚ 1) (no_question at) ≡ difference_at at x nought ∷ []
unfolding operations value_of variables unit_exponents constant
no_operations at = refl

pub yes_polynomial : (at : ℕ)
    → collect rationals grevlex (value 1 (variables ℚ 1) (yes_question at)) ≡ []
unfolding value_of variables unit_exponents collect insert place compare grevlex Algebra.negate
    fraction Fraction.sum Fraction.opposite is_lowest reduce gcd
yes_polynomial at = refl

pub no_polynomial : (at : ℕ)
    → collect rationals grevlex (value 1 (variables ℚ 1) (no_question at)) ≡ x
unfolding value_of variables unit_exponents constant collect insert place compare grevlex
    Algebra.negate fraction Fraction.sum Fraction.opposite is_lowest reduce gcd
no_polynomial at = refl

-- ---- results
yes_same : Same ℚ [] (x ++ negate ℚ x)
unfolding collect insert place compare grevlex Algebra.negate fraction Fraction.sum
    Fraction.opposite is_lowest reduce gcd
yes_same = collect-same ℚ_field grevlex grevlex_order (x ++ negate ℚ x)

no_same : Same ℚ x (x ++ negate ℚ nought)
unfolding collect insert place compare grevlex Algebra.negate fraction Fraction.sum
    Fraction.opposite is_lowest reduce gcd
no_same = collect-same ℚ_field grevlex grevlex_order (x ++ negate ℚ nought)

nought_same : Same ℚ [] nought
unfolding collect insert place compare grevlex fraction is_lowest reduce gcd
nought_same = collect-same ℚ_field grevlex grevlex_order nought

short : (p q : Terms Fraction) → IsPolynomial ℚ grevlex 1 p → Same ℚ p q → length p < 2
    → HoldsCollected 1 (λ r. most_terms < length r) q → ⊥
short p q is s l c = let more = only 1 (λ r. most_terms < length r) p q is s c in
    omega (arith, l, more)

module _ (at : ℕ) where
  pub yes_free : IsFree 1 (operations 1 (variables ℚ 1) (yes_question at))
  yes_free = subst (All (λ o. ¬ (PassesLimit 1 o))) (sym (yes_operations at))
      (All-cons (λ o. ¬ (PassesLimit 1 o)) (difference_at at x x) [] free
      (All-nil (λ o. ¬ (PassesLimit 1 o))))
    where
      free : PassesLimit 1 (difference_at at x x) → ⊥
      free (inl h) = h
      free (inr c) = short [] (x ++ negate ℚ x) none_polynomial yes_same (omega arith) c

  pub no_free : IsFree 1 (operations 1 (variables ℚ 1) (no_question at))
  no_free = subst (All (λ o. ¬ (PassesLimit 1 o))) (sym (no_operations at))
      (All-cons (λ o. ¬ (PassesLimit 1 o)) (difference_at at x nought) [] free
      (All-nil (λ o. ¬ (PassesLimit 1 o))))
    where
      free : PassesLimit 1 (difference_at at x nought) → ⊥
      free (inl h) = h
      free (inr c) = short x (x ++ negate ℚ nought) x_polynomial no_same (omega arith) c

  -- ---- weights
  two_fit : IsPastSum fractions x x → ⊥
  unfolding weight fraction is_lowest gcd lcm
  two_fit p = fits (size 2 1) (omega arith) (omega arith) p

  one_fits : IsPastSum fractions x [] → ⊥
  unfolding weight fraction is_lowest gcd lcm
  one_fits p = fits (size 1 1) (omega arith) (omega arith) p

  past_sides : (left right p q : Terms Fraction) → IsPolynomial ℚ grevlex 1 p → Same ℚ p left
      → IsPolynomial ℚ grevlex 1 q → Same ℚ q right
      → IsPastOperation 1 (difference_at at left right) → IsPastSum fractions p q
  past_sides left right p q a s b t h =
      only 1 (λ q. IsPastSum fractions p q) q right b t
      (only 1 (λ p. HoldsCollected 1 (λ q. IsPastSum fractions p q) right) p left a s h)

  pub alone : (o : Operation) (before behind : List Operation) (operation : Operation)
      → o ∷ [] ≡ before ++ operation ∷ behind → o ≡ operation
  alone o [] behind operation e = same_head e
  alone o (b ∷ []) behind operation e = absurd (let z = ap length e in omega (arith, z))
  alone o (b ∷ c ∷ before) behind operation e = absurd (let z = ap length e in omega (arith, z))

  pub yes_narrow : (offset : ℕ) → IsWide 1 (operations 1 (variables ℚ 1) (yes_question at)) offset
      → ⊥
  yes_narrow offset w =
      let same = alone (difference_at at x x) w.before w.behind w.operation (sym (yes_operations at)
      ∙ w.order) in
      two_fit (past_sides x x x x x_polynomial (Same-refl ℚ x) x_polynomial (Same-refl ℚ x)
      (subst (IsPastOperation 1) (sym same) w.holds.1))

  pub no_narrow : (offset : ℕ) → IsWide 1 (operations 1 (variables ℚ 1) (no_question at)) offset → ⊥
  no_narrow offset w =
      let same = alone (difference_at at x nought) w.before w.behind w.operation
      (sym (no_operations at) ∙ w.order) in
      one_fits (past_sides x nought x [] x_polynomial (Same-refl ℚ x) none_polynomial nought_same
      (subst (IsPastOperation 1) (sym same) w.holds.1))
