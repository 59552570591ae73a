-- The maps of a program: its effects, computed with polynomials in place of numbers.
--   branch_map program branch     the values after the branch, as polynomials in the values at its entry
--   start_map program             the values at a start, as polynomials in the free variables
--   composition program p images     p with the images for the program's variables
use Rattle.std.specs.Prelude.{List, length}
use Rattle.algebra.specs.Fraction.{Fraction, ℚ}
use Rattle.polynomials.specs.Terms.{Terms, constant, variables, lists, compose}
use Rattle.loops.specs.Program.{Expr, Program, Statement}
use Rattle.loops.specs.Effect.{after_iteration, start_from}

unfoldable pub branch_map : {At : Type 0} → Program (Expr At) → List (Statement (Expr At))
    → List (Terms Fraction)
branch_map program branch =
    let m = length program.names in
    after_iteration (lists ℚ m) (constant m) program branch (variables ℚ m)

unfoldable pub start_map : {At : Type 0} → Program (Expr At) → List (Terms Fraction)
start_map program =
    let m = length program.names in
    start_from (lists ℚ m) (constant m) program (variables ℚ m)

abbrev pub composition : {At : Type 0} → Program (Expr At) → Terms Fraction → List (Terms Fraction)
    → Terms Fraction
composition program p images = compose ℚ (length program.names) p images
