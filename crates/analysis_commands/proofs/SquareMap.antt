-- The map of one variable that squares it has no closed form: the variable uses itself non-linearly. So a loop with this branch has none.
--   squared            the map;  squared_cycle: the least cycle, from the variable to itself
--   square_loop t      the loop whose one branch is x = x*x, by the operator at the offset t
--   square_free        no operation of its maps passes a limit
--   square_refused     its branch is the first that is refused
--   square_unformed    so not all of its branches have closed forms
use Rattle.std.proofs.Common.{◌≡◌, inl, inr, ℕ, zero, suc, List, [], ◌∷◌, refl, sym, subst, arith, All}
use Rattle.std.proofs.lemmas.List.Elements.{All-nil, All-cons}
use Rattle.algebra.specs.Gcd.{gcd}
use Rattle.algebra.specs.Ratio.{is_lowest, reduce}
use Rattle.algebra.specs.Fraction as Fraction
use Rattle.algebra.specs.Fraction.{Fraction, fraction}
use Rattle.polynomials.specs.Algebra as Algebra
use Rattle.polynomials.specs.Exponent.{plus, unit_exponents}
use Rattle.polynomials.specs.Order.{compare, grevlex}
use Rattle.polynomials.specs.Terms.{Terms, variables, constant}
use Rattle.machines.specs.Collect.{collect, insert, place}
use Rattle.solvable_maps.specs.Dependency.{AtMost, Least, IsNonlinearCycle, IsLeastCycle}
use Rattle.solvable_maps.specs.Uses.{uses, strongly}
use Rattle.loops.specs.Effect.{after_branch, after_statement, store, value_of}
use Rattle.loops.specs.Map.{branch_map}
use Rattle.loops.specs.Program.{Expr, Program, mul, variable}
use Rattle.rounds.specs.BranchMap.{map_of}
use Rattle.loop_model.specs.Operations.{Operation, operations, operations_all, product_at, PassesLimit}
use Rattle.loop_model.specs.Maps.{maps_operations, statements_operations, AreFree}
use Rattle.closed_forms.specs.Refusal.{not_solvable, IfFormRefused}
use Rattle.invariant_fix.specs.Refusals.{AllHaveForms, IsRefusedBranch}
use Rattle.analysis_commands.proofs.BranchRefusals.{no_form}
use Rattle.analysis_commands.proofs.IdleRuns.{x_loop}
use Rattle.analysis_commands.proofs.PassedLimits.{one_power, one_product, low_product}

abbrev pub squared : List (Terms Fraction)
squared = one_power 2 ∷ []

first_places : (v w : ℕ) → Least (0 ∷ 0 ∷ []) (v ∷ w ∷ [])
first_places zero zero = inr (refl, inr (refl, tt))
first_places zero (suc w) = inr (refl, inl (omega arith))
first_places (suc v) w = inl (omega arith)

no_earlier : (ws : List ℕ) → IsNonlinearCycle (uses squared) (strongly squared) ws
    → AtMost (0 ∷ 0 ∷ []) ws
no_earlier [] c = absurd c
no_earlier (v ∷ []) c = absurd c
no_earlier (v ∷ w ∷ []) c = record { is = inr (refl, first_places v w) }
no_earlier (v ∷ w ∷ u ∷ ws) c = record { is = inl (omega arith) }

pub squared_cycle : IsLeastCycle (uses squared) (strongly squared) (0 ∷ 0 ∷ [])
squared_cycle = record { cycle = (tt, tt, refl); least = no_earlier }

-- ---- a loop
abbrev pub square_loop : ℕ → Program (Expr ℕ)
square_loop t =
    x_loop
    ((record { targets = 0 ∷ []; values = mul t (variable 0) (variable 0) ∷ [] } ∷ []) ∷ [])

module _ (t : ℕ) where
  square_map : map_of (square_loop t) 1 ≡ squared
  unfolding map_of branch_map after_branch after_statement store value_of variables
      unit_exponents constant collect insert place compare grevlex fraction is_lowest gcd
      Algebra.times Algebra.shift plus Fraction.product reduce
  square_map = refl

  abbrev only_product : Operation
  only_product = product_at t (one_power 1) (one_power 1)

  one_operation : maps_operations (square_loop t) ≡ only_product ∷ []
  unfolding operations operations_all statements_operations value_of variables unit_exponents
  one_operation = refl

  pub square_free : AreFree (square_loop t)
  square_free =
      subst (All (λ o. ¬ (PassesLimit 1 o))) (sym one_operation)
      (All-cons (λ o. ¬ (PassesLimit 1 o)) only_product []
      (low_product t (one_power 1) (one_power 1) 2 (one_product 1 1) (omega arith))
      (All-nil (λ o. ¬ (PassesLimit 1 o))))

  pub square_refused : IsRefusedBranch (square_loop t) 0 (not_solvable (0 ∷ 0 ∷ []))
  square_refused = record {
    within = omega arith;
    is = subst (λ ms. IfFormRefused ms (not_solvable (0 ∷ 0 ∷ []))) (sym square_map) squared_cycle;
    before = λ c l. absurd (omega (arith, l));
  }

  pub square_unformed : AllHaveForms (square_loop t) → ⊥
  square_unformed h =
      no_form (square_loop t) 1 (not_solvable (0 ∷ 0 ∷ [])) tt square_refused.is
      (h 0 (omega arith))
