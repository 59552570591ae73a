-- The operations by which polynomials are formed from an expression, in order: the operands from left to right, then the operator.
--   most_degree, most_terms  no product may have a greater degree, and no result more terms
--   Kind                     a sum or a difference, a product or a partial power, a quotient by a number
--   Operation                the offset of the operator, what it forms, its two operands and its result, as terms that aren't collected
--   opposite_at, sum_at, difference_at, product_at, quotient_at     those of the operators; an opposite is a difference from 0
--   value m s e              the value of the expression e, where the variables have the values s, polynomials in m variables
--   operations m s e         the operations by which it is formed
--   operations_all m s es    those of some expressions in turn
--   power_of m q n           the nth power of q
--   partial_powers m at q n  its partial powers, each the product of q with the one before; the first is the product with 1
--   HoldsCollected m P p          P holds of p with like terms collected
--   IsHigh p                 the degree of p is above most_degree
--   HasHighDegree m p        that of p with like terms collected
--   IsTooHigh m o            a product or a partial power whose result has a degree above most_degree
--   IsTooLong m o            the result, with like terms collected, has more than most_terms terms
--   IsPastOperation m o      the weight of the operation is past, at its operands with like terms collected
--   PassesLimit m o          it is too high or too long
--   IsFree m os              no operation passes a limit
--   IsFirst m P os at        an operation at this offset, with none before it that passes a limit, for which P holds
--   IsLimit m os at          the first operation that passes a limit stands at this offset
--   IsWide m os at           an operation at this offset is past, isn't too high, and none before it passes a limit
use Rattle.std.specs.Prelude.{◌≡◌, ◌⊎◌, ℕ, zero, suc, ◌<◌, ℤ, List, [], ◌∷◌, ◌++◌, length}
use Rattle.std.specs.List.{All}
use Rattle.algebra.specs.Arithmetic as numeral
use Rattle.algebra.specs.Fraction.{Fraction, ℚ, fractions, whole, inverse}
use Rattle.polynomials.specs.Terms.{Terms, Same, constant, times, negate, lists}
use Rattle.polynomials.specs.Polynomial.{IsPolynomial}
use Rattle.polynomials.specs.Weight.{IsPastSum, IsPastProduct}
use Rattle.polynomials.specs.Order.{grevlex}
use Rattle.polynomials.specs.Degree.{IsDegree}
use Rattle.loops.specs.Program.{Expr, number, variable, neg, add, sub, mul, divide, power}
use Rattle.loops.specs.Effect.{value_of}

abbrev pub most_degree : ℕ
most_degree = 64

abbrev pub most_terms : ℕ
most_terms = 4096

pub data Kind : Type 0 where
  summed multiplied divided : Kind

pub record Operation : Type 0 where
  pub at : ℕ
  pub kind : Kind
  pub left : Terms Fraction
  pub right : Terms Fraction
  pub result : Terms Fraction

abbrev pub opposite_at : ℕ → Terms Fraction → Operation
opposite_at at q = record { at = at; kind = summed; left = []; right = q; result = negate ℚ q }

abbrev pub sum_at : ℕ → Terms Fraction → Terms Fraction → Operation
sum_at at p q = record { at = at; kind = summed; left = p; right = q; result = p ++ q }

abbrev pub difference_at : ℕ → Terms Fraction → Terms Fraction → Operation
difference_at at p q = record {
  at = at;
  kind = summed;
  left = p;
  right = q;
  result = p ++ negate ℚ q;
}

abbrev pub product_at : ℕ → Terms Fraction → Terms Fraction → Operation
product_at at p q = record { at = at; kind = multiplied; left = p; right = q; result = times ℚ p q }

-- P holds of p with like terms collected
pub record HoldsCollected (m : ℕ) (P : Terms Fraction → Type 0) (p : Terms Fraction) : Type 0 where
  pub terms : Terms Fraction
  pub is : IsPolynomial ℚ grevlex m terms
  pub same : Same ℚ terms p
  pub holds : P terms

pub record IsHigh (p : Terms Fraction) : Type 0 where
  pub degree : ℕ
  pub is : IsDegree degree p
  pub high : most_degree < degree

module _ (m : ℕ) where
  abbrev pub quotient_at : ℕ → Terms Fraction → ℤ → Operation
  quotient_at at p n = let by : Terms Fraction = constant m (inverse (whole n)) in
      record { at = at; kind = divided; left = p; right = by; result = times ℚ p by }

  abbrev pub value : List (Terms Fraction) → Expr ℕ → Terms Fraction
  value s e = value_of (lists ℚ m) (constant m) s e

  abbrev pub power_of : Terms Fraction → ℕ → Terms Fraction
  power_of q n = numeral.power (lists ℚ m) q n

  unfoldable pub partial_powers : ℕ → Terms Fraction → ℕ → List Operation
  partial_powers at q zero = []
  partial_powers at q (suc k) = partial_powers at q k ++ product_at at q (power_of q k) ∷ []

  unfoldable pub operations : List (Terms Fraction) → Expr ℕ → List Operation
  operations s (number n) = []
  operations s (variable i) = []
  operations s (neg at e) = operations s e ++ opposite_at at (value s e) ∷ []
  operations s (add at e f) =
      operations s e ++ operations s f ++ sum_at at (value s e) (value s f) ∷ []
  operations s (sub at e f) =
      operations s e ++ operations s f ++ difference_at at (value s e) (value s f) ∷ []
  operations s (mul at e f) =
      operations s e ++ operations s f ++ product_at at (value s e) (value s f) ∷ []
  operations s (divide at e n) = operations s e ++ quotient_at at (value s e) n ∷ []
  operations s (power at e n) = operations s e ++ partial_powers at (value s e) n

  unfoldable pub operations_all : List (Terms Fraction) → List (Expr ℕ) → List Operation
  operations_all s [] = []
  operations_all s (e ∷ es) = operations s e ++ operations_all s es

  abbrev pub HasHighDegree : Terms Fraction → Type 0
  HasHighDegree p = HoldsCollected m IsHigh p

  abbrev pub IsTooHighIn : Kind → Terms Fraction → Type 0
  IsTooHighIn summed p = ⊥
  IsTooHighIn multiplied p = HasHighDegree p
  IsTooHighIn divided p = ⊥

  abbrev pub IsTooHigh : Operation → Type 0
  IsTooHigh o = IsTooHighIn o.kind o.result

  abbrev pub IsTooLong : Operation → Type 0
  IsTooLong o = HoldsCollected m (λ p. most_terms < length p) o.result

  abbrev pub PassesLimit : Operation → Type 0
  PassesLimit o = IsTooHigh o ⊎ IsTooLong o

  abbrev pub BothPast : Kind → Terms Fraction → Terms Fraction → Type 0
  BothPast summed p q = IsPastSum fractions p q
  BothPast multiplied p q = IsPastProduct fractions p q
  BothPast divided p q = IsPastProduct fractions p q

  abbrev pub IsPastOperation : Operation → Type 0
  IsPastOperation o = HoldsCollected m (λ p. HoldsCollected m (λ q. BothPast o.kind p q) o.right)
      o.left

  abbrev pub IsFree : List Operation → Type 0
  IsFree os = All (λ o. ¬ (PassesLimit o)) os

  -- none before it passes a limit
  pub record IsFirst (P : Operation → Type 0) (os : List Operation) (at : ℕ) : Type 0 where
    pub before : List Operation
    pub operation : Operation
    pub behind : List Operation
    pub order : os ≡ before ++ operation ∷ behind
    pub free : IsFree before
    pub offset : operation.at ≡ at
    pub holds : P operation

  abbrev pub IsLimit : List Operation → ℕ → Type 0
  IsLimit os at = IsFirst PassesLimit os at

  abbrev pub IsWide : List Operation → ℕ → Type 0
  IsWide os at = IsFirst (λ o. ¬ (IsTooHigh o) × IsPastOperation o) os at
