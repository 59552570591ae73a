-- The polynomials that a program's starts are the zeros of.
--   start_polynomial program e     the variable that the equation e sets, less its value
--   in_order n es                  the equations es that set one of the first n variables, in the order of these
--   start_list program             the polynomials of init, in declared order of the variables
use Rattle.std.specs.Prelude.{ℕ, zero, suc, eqb, List, [], ◌++◌, map, get_or, length}
use Rattle.std.specs.List.{filter}
use Rattle.algebra.specs.Fraction.{Fraction, ℚ}
use Rattle.polynomials.specs.Terms.{Terms, constant, negate, variables, lists}
use Rattle.loops.specs.Program.{Expr, Program, Equation}
use Rattle.loops.specs.Effect.{value_of}

unfoldable pub start_polynomial : {At : Type 0} → Program (Expr At) → Equation (Expr At)
    → Terms Fraction
start_polynomial program e =
    let m = length program.names in
    get_or (variables ℚ m) e.name [] ++ negate ℚ
    (value_of (lists ℚ m) (constant m) (variables ℚ m) e.value)

unfoldable pub in_order : {E : Type 0} → ℕ → List (Equation E) → List (Equation E)
in_order zero es = []
in_order {E = E} (suc n) es = in_order n es ++ filter (λ (e : Equation E). eqb e.name n) es

unfoldable pub start_list : {At : Type 0} → Program (Expr At) → List (Terms Fraction)
start_list program = map (start_polynomial program) (in_order (length program.names) program.init)
