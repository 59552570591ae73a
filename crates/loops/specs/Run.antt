-- Runs: a start, a word of branch numbers, and the state at the end. A state is a list with one fraction for each variable.
--   value e s, effect program branch s    the value of an expression, and the state after a branch
--   IsState program s             s has one fraction for each variable
--   IsStart program s             a state at which each equation of init holds
--   branch_at program b           the branch with the number b; branches count from 1
--   run_end program word s        the state after the word's branches in order, if each letter is the number of a branch
--   states program word s         the states from s to that end
--   Run program                   a run
use Rattle.std.specs.Prelude.{◌≡◌, ℕ, zero, suc, List, [], ◌∷◌, get_or, length, slice_get, Option, Some, None, option_and_then}
use Rattle.std.specs.Option.{option_map_or}
use Rattle.std.specs.List.{All}
use Rattle.algebra.specs.Fraction.{Fraction, ℚ}
use Rattle.loops.specs.Program.{Program, Equation, Statement, Expr}
use Rattle.loops.specs.Effect.{value_of, after_iteration}

abbrev pub value : {At : Type 0} → Expr At → List Fraction → Fraction
value e s = value_of ℚ (λ c. c) s e

abbrev pub effect : {At : Type 0} → Program (Expr At) → List (Statement (Expr At)) → List Fraction
    → List Fraction
effect program branch s = after_iteration ℚ (λ c. c) program branch s

abbrev pub IsState : {At : Type 0} → Program (Expr At) → List Fraction → Type 0
IsState program s = length s ≡ length program.names

pub record IsStart {At : Type 0} (program : Program (Expr At)) (s : List Fraction) : Type 0 where
  pub state : IsState program s
  pub holds : All (λ (e : Equation (Expr At)).
      get_or s e.name ℚ.zero ≡ value e.value s) program.init

unfoldable pub branch_at : {At : Type 0} → Program (Expr At) → ℕ
    → Option (List (Statement (Expr At)))
branch_at program zero = None
branch_at program (suc b) = slice_get program.branches b

unfoldable pub run_end : {At : Type 0} → Program (Expr At) → List ℕ → List Fraction
    → Option (List Fraction)
run_end program [] s = Some s
run_end program (b ∷ word) s =
    option_and_then (λ branch. run_end program word (effect program branch s)) (branch_at program b)

-- the states from s on, one more than the word has letters
unfoldable pub states : {At : Type 0} → Program (Expr At) → List ℕ → List Fraction
    → List (List Fraction)
states program [] s = s ∷ []
states program (b ∷ word) s =
    s ∷ option_map_or (λ branch. states program word (effect program branch s))
    (branch_at program b) []

pub record Run {At : Type 0} (program : Program (Expr At)) : Type 0 where
  pub start : List Fraction
  pub word : List ℕ
  pub end : List Fraction
  pub is_start : IsStart program start
  pub is_end : run_end program word start ≡ Some end
