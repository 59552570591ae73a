-- Checked values from those of an expression's parts.
--   on f a, both f a b            f of numbers that may be none
--   power-zero, power-suc         powers, factor by factor
--   values_of_parts               the value of a number and of a variable
--   unary_done, binary_done, unary_wide, first_wide, second_wide      the value of an operator by those of its operands
use Rattle.std.proofs.Common.{◌≡◌, ◌∙◌, sym, ap, ap₂, refl, ℕ, suc, ℤ, Bool, true, false, ◌&&◌, List, get_or, Option, Some, None}
use Rattle.std.specs.Prelude.{option_and_then}
use Rattle.algebra.specs.Arithmetic as numeral
use Rattle.algebra.specs.Fraction.{Fraction, ℚ, whole, inverse}
use Rattle.algebra.proofs.Fractions.{fractions_ring}
use Rattle.loops.specs.Program.{Expr, number, variable, neg, add, sub, mul, divide}
use Rattle.loops.specs.Program as program
use Rattle.loops.specs.Effect.{value_of}
use Rattle.loops.specs.Run.{value}
use Rattle.loop_model.specs.ExpressionView.{unary_of, binary_of}
use Rattle.loop_model.specs.declared.expr.UnaryOperator.TheVariants as operators
use Rattle.loop_model.specs.declared.expr.UnaryOperator.{UnaryOperator}
use Rattle.loop_model.specs.declared.expr.BinaryOperator.TheVariants as pairs
use Rattle.loop_model.specs.declared.expr.BinaryOperator.{BinaryOperator}
use Rattle.loop_runs.specs.Checked.{number_fits, power_of, powers_fit, all_fit, number_if, checked_value, checked_sum as sum, checked_difference as difference, checked_product as product, checked_power as power, unary_value, binary_value}

abbrev pub on : (Fraction → Option Fraction) → Option Fraction → Option Fraction
on f a = option_and_then f a

abbrev pub both : (Fraction → Fraction → Option Fraction) → Option Fraction → Option Fraction
    → Option Fraction
both f a b = on (λ p. on (f p) b) a

behind_one : (f : Fraction → Option Fraction) (a c : Bool) (p v : Fraction) → number_if c v ≡ f p
    → number_if (a && c) v ≡ on f (number_if a p)
behind_one f true c p v e = e
behind_one f false c p v e = refl

behind_both : (f : Fraction → Fraction → Option Fraction) (a b c : Bool) (p q v : Fraction)
    → number_if c v ≡ f p q → number_if ((a && b) && c) v ≡ both f (number_if a p) (number_if b q)
behind_both f true true c p q v e = e
behind_both f true false c p q v e = refl
behind_both f false b c p q v e = refl

-- ---- powers
pub power-zero : (p : Fraction) → Some ℚ.one ≡ power p 0
unfolding powers_fit numeral.power
power-zero p = refl

-- the factor that comes last in code stands first in the definition
pub power-suc : (p : Fraction) (n : ℕ) → power p (suc n) ≡ on (λ q. product q p) (power p n)
unfolding powers_fit numeral.power
power-suc p n =
    behind_one (λ q. product q p) (powers_fit p n) (number_fits (ℚ.mul p (power_of p n)))
    (power_of p n) (ℚ.mul p (power_of p n))
    (ap (λ v. number_if (number_fits v) v) (fractions_ring.mul_comm p (power_of p n)))

-- ---- expressions
module _ (At : Type 0) (s : List Fraction) where
  pub value-number : (n : ℤ) → checked_value {At = At} (number n) s ≡ Some (whole n)
  unfolding checked_value all_fit value_of
  value-number n = refl

  pub value-variable : (i : ℕ) → checked_value {At = At} (variable i) s ≡ Some (get_or s i ℚ.zero)
  unfolding checked_value all_fit value_of
  value-variable i = refl

module _ {At : Type 0} (s : List Fraction) where
  value-neg : (at : At) (e : Expr At) → checked_value (neg at e) s
      ≡ on (λ p. Some (ℚ.neg p)) (checked_value e s)
  unfolding checked_value all_fit value_of
  value-neg at e = go (all_fit e s)
    where
      go : (b : Bool) → number_if b (ℚ.neg (value e s))
          ≡ on (λ p. Some (ℚ.neg p)) (number_if b (value e s))
      go true = refl
      go false = refl

  value-add : (at : At) (e f : Expr At) → checked_value (add at e f) s
      ≡ both sum (checked_value e s) (checked_value f s)
  unfolding checked_value all_fit value_of
  value-add at e f = behind_both sum (all_fit e s) (all_fit f s) _ (value e s) (value f s) _ refl

  value-sub : (at : At) (e f : Expr At) → checked_value (sub at e f) s ≡ both difference
      (checked_value e s) (checked_value f s)
  unfolding checked_value all_fit value_of
  value-sub at e f = behind_both difference (all_fit e s) (all_fit f s) _ (value e s) (value f s) _
      refl

  value-mul : (at : At) (e f : Expr At) → checked_value (mul at e f) s ≡ both product
      (checked_value e s) (checked_value f s)
  unfolding checked_value all_fit value_of
  value-mul at e f = behind_both product (all_fit e s) (all_fit f s) _ (value e s) (value f s) _
      refl

  value-divide : (at : At) (e : Expr At) (n : ℤ) → checked_value (divide at e n) s
      ≡ on (λ p. product p (inverse (whole n))) (checked_value e s)
  unfolding checked_value all_fit value_of
  value-divide at e n = behind_one (λ p. product p (inverse (whole n))) (all_fit e s) _ (value e s)
      _ refl

  value-power : (at : At) (e : Expr At) (n : ℕ) → checked_value (program.power at e n) s
      ≡ on (λ p. power p n) (checked_value e s)
  unfolding checked_value all_fit value_of
  value-power at e n = behind_one (λ p. power p n) (all_fit e s) (powers_fit (value e s) n)
      (value e s) _ refl

  pub value-unary : (o : UnaryOperator) (at : At) (e : Expr At) → checked_value (unary_of o at e) s
      ≡ on (unary_value o) (checked_value e s)
  value-unary operators.Neg at e = value-neg at e
  value-unary (operators.Div by) at e = value-divide at e by.value
  value-unary (operators.Power n) at e = value-power at e n

  pub value-binary : (o : BinaryOperator) (at : At) (e f : Expr At)
      → checked_value (binary_of o at e f) s
      ≡ both (binary_value o) (checked_value e s) (checked_value f s)
  value-binary pairs.Add at e f = value-add at e f
  value-binary pairs.Sub at e f = value-sub at e f
  value-binary pairs.Mul at e f = value-mul at e f

  -- an operator's answer r is its value, where its operands have these values
  pub unary_done : (o : UnaryOperator) (at : At) (e : Expr At) (p : Fraction) (r : Option Fraction)
      → Some p ≡ checked_value e s → r ≡ unary_value o p → r ≡ checked_value (unary_of o at e) s
  unary_done o at e p r h k = k ∙ ap (on (unary_value o)) h ∙ sym (value-unary o at e)

  pub binary_done : (o : BinaryOperator) (at : At) (e f : Expr At) (p q : Fraction)
      (r : Option Fraction) → Some p ≡ checked_value e s → Some q ≡ checked_value f s
      → r ≡ binary_value o p q → r ≡ checked_value (binary_of o at e f) s
  binary_done o at e f p q r h k l =
      l ∙ ap₂ (both (binary_value o)) h k ∙ sym (value-binary o at e f)

  -- an operand is too wide
  pub unary_wide : (o : UnaryOperator) (at : At) (e : Expr At) → None ≡ checked_value e s
      → None ≡ checked_value (unary_of o at e) s
  unary_wide o at e h = ap (on (unary_value o)) h ∙ sym (value-unary o at e)

  pub first_wide : (o : BinaryOperator) (at : At) (e f : Expr At) → None ≡ checked_value e s
      → None ≡ checked_value (binary_of o at e f) s
  first_wide o at e f h = ap (λ a. both (binary_value o) a (checked_value f s)) h
      ∙ sym (value-binary o at e f)

  pub second_wide : (o : BinaryOperator) (at : At) (e f : Expr At) (p : Fraction)
      → Some p ≡ checked_value e s → None ≡ checked_value f s
      → None ≡ checked_value (binary_of o at e f) s
  second_wide o at e f p h k = ap₂ (both (binary_value o)) h k ∙ sym (value-binary o at e f)

pub ruleset values_of_parts = (value-number, value-variable)
