-- An equation of a loop.
--   equation_in names text     the equation that the bytes are, as its left side minus its right
--                              side; or its first fault
--   operations_of l e          the operations by which e is formed as a polynomial over the names
--     of l
--   polynomial_of l e          this polynomial, with like terms collected
--   Holds l e                  e is zero at the end of every run of l: the equation holds at every
--                              state that any order of branches reaches from any start
--   HoldsAfter l e w           e is zero at the end of each run with the argument w
--   FormsFreely l e            no operation by which e is formed passes a limit
use Rattle.std.specs.Prelude.{◌≡◌, ℕ, List, length, Result}
use Rattle.algebra.specs.Fraction.{Fraction, ℚ, rationals}
use Rattle.polynomials.specs.Order.{grevlex}
use Rattle.polynomials.specs.Terms.{Terms}
use Rattle.machines.specs.Collect.{collect}
use Rattle.loops.specs.Program.{Expr, Program}
use Rattle.loops.specs.Run as runs
use Rattle.loops.specs.Run.{Run}
use Rattle.loop_model.specs.Operations.{Operation, value, operations, IsFree}
use Rattle.poly_text.specs.Lexemes.{tokens}
use Rattle.poly_text.specs.Reasons.{Fault}
use Rattle.poly_text.specs.Equations.{equation_of, free_state}

abbrev pub equation_in : List (List ℕ) → List ℕ → Result (Expr ℕ) Fault
equation_in names text = equation_of names (tokens text)

module _ (l : Program (Expr ℕ)) (e : Expr ℕ) where
  abbrev pub operations_of : List Operation
  operations_of = let m = length l.names in operations m (free_state m) e

  abbrev pub polynomial_of : Terms Fraction
  polynomial_of = let m = length l.names in collect rationals grevlex (value m (free_state m) e)

  abbrev pub Holds : Type 0
  Holds = (r : Run l) → runs.value e r.end ≡ ℚ.zero

  abbrev pub HoldsAfter : List ℕ → Type 0
  HoldsAfter w = (r : Run l) → r.word ≡ w → runs.value e r.end ≡ ℚ.zero

  abbrev pub FormsFreely : Type 0
  FormsFreely = IsFree (length l.names) operations_of
