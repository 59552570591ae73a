-- The polynomial of an equation.
--   equation_polynomial      a polynomial that stands for the equation is its polynomial
--   value_is                 its value at a state is the equation's;  end_value: at the end of a
--     run
--   equation_arity           it is in the loop's variables
--   holds_invariant          the equation holds at the end of every run exactly where it is an
--     invariant
use Rattle.std.proofs.Common.{◌≡◌, ◌↔◌, ℕ, List, length, sym, ap, ◌∙◌}
use Rattle.algebra.specs.Fraction.{Fraction, ℚ}
use Rattle.algebra.proofs.Fractions.{ℚ_ring, ℚ_field}
use Rattle.polynomials.specs.Order.{grevlex}
use Rattle.polynomials.specs.Polynomial.{Arity}
use Rattle.polynomials.specs.Terms.{Terms, constant, variables, lists, value_at}
use Rattle.polynomials.proofs.Arity.{arity-variables}
use Rattle.polynomials.proofs.Orders.{grevlex_order}
use Rattle.polynomials.proofs.ValueAt.{value_at_same, value_at-variables}
use Rattle.machines.proofs.Collecting.{collect-polynomial, collect-same, collect-is}
use Rattle.loops.specs.Inv.{Inv}
use Rattle.loops.specs.Program.{Expr, Program}
use Rattle.loops.specs.Run as runs
use Rattle.loops.specs.Run.{Run}
use Rattle.loops.proofs.Effects.{value_in, to-value_of}
use Rattle.loops.proofs.Maps.{arity_closed, value_at_carries}
use Rattle.loops.proofs.Invariants.{end_is_state}
use Rattle.poly.specs.Seen.{terms_in}
use Rattle.poly.specs.Standing.{StandsFor}
use Rattle.poly.proofs.Standing.{polynomial_over}
use Rattle.loop_model.specs.FracPoly.{FracPoly}
use Rattle.loop_model.specs.Operations.{value}
use Rattle.poly_text.specs.Equations.{free_state}
use Rattle.command_parts.specs.Equations.{polynomial_of, Holds}

module _ (l : Program (Expr ℕ)) (e : Expr ℕ) where
  abbrev m : ℕ
  m = length l.names

  abbrev formed : Terms Fraction
  formed = value m (free_state m) e

  formed_arity : Arity m formed
  formed_arity =
      value_in (lists ℚ m) (constant m) (Arity m) (arity_closed m) (variables ℚ m)
      (arity-variables m ℚ) e

  pub equation_polynomial : (p : FracPoly)
      → StandsFor (length l.names) p (value (length l.names) (free_state (length l.names)) e)
      → terms_in p ≡ polynomial_of l e
  equation_polynomial p stands =
      collect-is ℚ_field grevlex grevlex_order m formed (terms_in p) formed_arity
      (polynomial_over m p stands.arity) stands.same

  pub equation_arity : Arity (length l.names) (polynomial_of l e)
  equation_arity = (collect-polynomial ℚ_field grevlex grevlex_order m formed formed_arity).arity

  pub value_is : (s : List Fraction) → length s ≡ length l.names
      → value_at ℚ (polynomial_of l e) s ≡ runs.value e s
  value_is s long =
      value_at_same ℚ_ring (polynomial_of l e) formed s
      (collect-same ℚ_field grevlex grevlex_order formed)
      ∙ to-value_of (lists ℚ m) ℚ (constant m) (λ c. c) (λ p. value_at ℚ p s)
      (value_at_carries m s) (variables ℚ m) e
      ∙ ap (λ t. runs.value e t) (value_at-variables ℚ_ring m s long)

  pub end_value : (r : Run l) → value_at ℚ (polynomial_of l e) r.end ≡ runs.value e r.end
  end_value r = value_is r.end (end_is_state l r)

  pub holds_invariant : Inv l (polynomial_of l e) ↔ Holds l e
  holds_invariant = (
    (λ i r. sym (end_value r) ∙ i.zero r),
    (λ h. record { arity = equation_arity; zero = λ r. end_value r ∙ h r }),
  )
