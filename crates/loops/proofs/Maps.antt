-- The values of a program's maps at a state are its effects there.
--   branch_map_values, start_map_values     the law of the maps
--   value_after_branch, value_at_start      a polynomial composed with a map, at a state
--   effect_keeps_state, start_keeps_state   effects take states to states
--   arity-branch_map, arity-start_map       the maps are lists of polynomials over the program's variables
--   length-variables, length-branch_map, length-start_map     of which there is one for each
--   arity_closed            operations on polynomials in m variables give such
--   value_at_carries        the value of a polynomial at a state is computed by the operations on values
use Rattle.std.proofs.Common.{◌≡◌, ℕ, List, map, length, refl, ap, ◌∙◌}
use Rattle.std.proofs.lemmas.List.{length-map}
use Rattle.algebra.specs.Each.{Each}
use Rattle.algebra.specs.Sum.{sum_over}
use Rattle.algebra.specs.Fraction.{Fraction, ℚ}
use Rattle.algebra.proofs.Fractions.{ℚ_ring}
use Rattle.polynomials.specs.Exponent.{unit_exponents}
use Rattle.polynomials.specs.Terms.{Terms, constant, variables, lists, evaluate, value_at}
use Rattle.polynomials.specs.Polynomial.{Arity, AllArity}
use Rattle.polynomials.proofs.Arity.{length-units, arity-append, arity-times, arity-negate, arity-constant, arity-variables}
use Rattle.polynomials.proofs.ValueAt.{value_at-negate, value_at-append, value_at-times, value_at-constant, value_at-variables, value_at-compose}
use Rattle.loops.specs.Program.{Expr, Program, Statement}
use Rattle.loops.specs.Effect.{start_from}
use Rattle.loops.specs.Run.{effect, IsState}
use Rattle.loops.specs.Map.{branch_map, start_map, composition}
use Rattle.loops.proofs.Effects.{Closed, iteration_in, start_in, Carries, map-iteration, map-start_from, length-iteration, length-start_from}

pub arity_closed : (m : ℕ) → Closed (lists ℚ m) (constant m) (Arity m)
unfolding Each
arity_closed m = record {
  zero_in = tt;
  one_in = arity-constant m ℚ.one;
  add_in = arity-append m;
  mul_in = arity-times m ℚ;
  neg_in = arity-negate m ℚ;
  number_in = arity-constant m;
}

pub value_at_carries : (m : ℕ) (s : List Fraction) → Carries (lists ℚ m) ℚ (constant m) (λ c. c)
    (λ p. value_at ℚ p s)
unfolding evaluate sum_over
value_at_carries m s = record {
  to-zero = refl;
  to-one = value_at-constant ℚ_ring m ℚ.one s;
  to-add = λ p q. value_at-append ℚ_ring p q s;
  to-mul = λ p q. value_at-times ℚ_ring p q s;
  to-neg = λ p. value_at-negate ℚ_ring p s;
  to-number = λ c. value_at-constant ℚ_ring m c s;
}

-- ---- states
pub effect_keeps_state : {At : Type 0} (program : Program (Expr At))
    (branch : List (Statement (Expr At))) (s : List Fraction) → IsState program s
    → IsState program (effect program branch s)
effect_keeps_state program branch s is = length-iteration ℚ (λ c. c) program branch s is

pub start_keeps_state : {At : Type 0} (program : Program (Expr At)) (s : List Fraction)
    → IsState program s → IsState program (start_from ℚ (λ c. c) program s)
start_keeps_state program s is = length-start_from ℚ (λ c. c) program s ∙ is

-- ---- the maps are polynomials over the program's variables
pub length-variables : (m : ℕ) → length (variables ℚ m) ≡ m
unfolding variables
length-variables m = length-map (unit_exponents m) _ ∙ length-units m

module _ {At : Type 0} (program : Program (Expr At)) where
  abbrev m : ℕ
  m = length program.names

  pub arity-branch_map : (branch : List (Statement (Expr At)))
      → AllArity (length program.names) (branch_map program branch)
  unfolding branch_map
  arity-branch_map branch = iteration_in (lists ℚ m) (constant m) (Arity m) (arity_closed m) program
      branch _ (arity-variables m ℚ)

  pub arity-start_map : AllArity (length program.names) (start_map program)
  unfolding start_map
  arity-start_map = start_in (lists ℚ m) (constant m) (Arity m) (arity_closed m) program _
      (arity-variables m ℚ)

  pub length-branch_map : (branch : List (Statement (Expr At))) → length (branch_map program branch)
      ≡ length program.names
  unfolding branch_map
  length-branch_map branch = length-iteration (lists ℚ m) (constant m) program branch _
      (length-variables m)

  pub length-start_map : length (start_map program) ≡ length program.names
  unfolding start_map
  length-start_map = length-start_from (lists ℚ m) (constant m) program _ ∙ length-variables m

  -- ---- the law of the maps
  pub branch_map_values : (branch : List (Statement (Expr At))) (s : List Fraction)
      → IsState program s → map (λ p. value_at ℚ p s) (branch_map program branch) ≡ effect program
      branch s
  unfolding branch_map
  branch_map_values branch s is =
      map-iteration (lists ℚ m) ℚ (constant m) (λ c. c) (λ p. value_at ℚ p s) (value_at_carries m s)
      program branch (variables ℚ m)
      ∙ ap (effect program branch) (value_at-variables ℚ_ring m s is)

  pub start_map_values : (s : List Fraction) → IsState program s
      → map (λ p. value_at ℚ p s) (start_map program) ≡ start_from ℚ (λ c. c) program s
  unfolding start_map
  start_map_values s is =
      map-start_from (lists ℚ m) ℚ (constant m) (λ c. c) (λ p. value_at ℚ p s)
      (value_at_carries m s) program (variables ℚ m)
      ∙ ap (start_from ℚ (λ c. c) program) (value_at-variables ℚ_ring m s is)

  -- ---- compositions with them
  module _ (p : Terms Fraction) where
    pub value_after_branch : (branch : List (Statement (Expr At))) (s : List Fraction)
        → IsState program s → value_at ℚ (composition program p (branch_map program branch)) s
        ≡ value_at ℚ p (effect program branch s)
    value_after_branch branch s is = value_at-compose ℚ_ring m p (branch_map program branch) s
        ∙ ap (value_at ℚ p) (branch_map_values branch s is)

    pub value_at_start : (s : List Fraction) → IsState program s
        → value_at ℚ (composition program p (start_map program)) s ≡ value_at ℚ p
        (start_from ℚ (λ c. c) program s)
    value_at_start s is = value_at-compose ℚ_ring m p (start_map program) s
        ∙ ap (value_at ℚ p) (start_map_values s is)
