-- Chains of loops over the same variables: the first has the starts, and each further one begins where the one before ended, behind code that is done once.
--   Stage E                 code, and the branches of the loop behind it
--   Chain E                 the first loop, and the stages behind it
--   stages_of c             all of them: the first loop has no code before it
--   loop_of program bs      the loop with these branches over the program's variables, which sets nothing
--   loop_at c j             the loop at the place j, as a program; the first stands at 0
--   code_at c j             the code before it
--   followed_by c g         c with one more stage at its end;  up_to j c: the loops up to the place j
--   state_behind program code s  the state behind the code; where there is no code it is s
--   chain_end program stages words s     the state after a word of each loop in turn, if there is one for each and each letter is the number of a branch of its loop
--   stage_states program code bs w s  the states that a stage comes through from s: the one behind its code, if it has code, and those behind the letters of the word
--   chain_states program stages words s  the states from s to that end
--   count_codes stages      how many of them have code
--   ChainRun c              a run
--   ChainInv c p            p, over the chain's variables, is zero at the end of every run
--   IsChain c               each loop is well formed
use Rattle.std.specs.Prelude.{◌≡◌, ℕ, zero, suc, ◌+◌, ◌≤◌, List, [], ◌∷◌, ◌++◌, take, drop, get_or, length, Option, Some, None, option_and_then}
use Rattle.std.specs.Option.{option_map_or}
use Rattle.algebra.specs.Fraction.{Fraction, ℚ}
use Rattle.polynomials.specs.Terms.{Terms, value_at}
use Rattle.polynomials.specs.Polynomial.{Arity}
use Rattle.loops.specs.Program.{Expr, Program, Statement}
use Rattle.loops.specs.Run.{IsStart, effect, run_end, states}
use Rattle.loops.specs.WellFormed.{IsWellFormed}

pub record Stage (E : Type 0) : Type 0 where
  pub code : List (Statement E)
  pub branches : List (List (Statement E))

pub record Chain (E : Type 0) : Type 0 where
  pub first : Program E
  pub further : List (Stage E)

abbrev pub no_stage : {E : Type 0} → Stage E
no_stage = record { code = []; branches = [] }

abbrev pub stages_of : {E : Type 0} → Chain E → List (Stage E)
stages_of c = record { code = []; branches = c.first.branches } ∷ c.further

abbrev pub loop_of : {E : Type 0} → Program E → List (List (Statement E)) → Program E
loop_of program bs = record program { init = []; branches = bs }

abbrev pub loop_at : {E : Type 0} → Chain E → ℕ → Program E
loop_at c zero = c.first
loop_at c (suc j) = loop_of c.first (get_or c.further j no_stage).branches

abbrev pub code_at : {E : Type 0} → Chain E → ℕ → List (Statement E)
code_at c zero = []
code_at c (suc j) = (get_or c.further j no_stage).code

abbrev pub followed_by : {E : Type 0} → Chain E → Stage E → Chain E
followed_by c g = record c { further = c.further ++ g ∷ [] }

abbrev pub up_to : {E : Type 0} → ℕ → Chain E → Chain E
up_to j c = record c { further = take j c.further }

unfoldable pub state_behind : {At : Type 0} → Program (Expr At) → List (Statement (Expr At))
    → List Fraction → List Fraction
state_behind program [] s = s
state_behind program (a ∷ code) s = effect program (a ∷ code) s

unfoldable pub chain_end : {At : Type 0} → Program (Expr At) → List (Stage (Expr At))
    → List (List ℕ) → List Fraction → Option (List Fraction)
chain_end program [] [] s = Some s
chain_end program [] (w ∷ words) s = None
chain_end program (g ∷ stages) [] s = None
chain_end program (g ∷ stages) (w ∷ words) s =
    option_and_then (chain_end program stages words)
    (run_end (loop_of program g.branches) w (state_behind program g.code s))

-- without code the states of a word begin with the last one of the word before, which isn't told
-- again
unfoldable pub stage_states : {At : Type 0} → Program (Expr At) → List (Statement (Expr At))
    → List (List (Statement (Expr At))) → List ℕ → List Fraction → List (List Fraction)
stage_states program [] bs w s = drop 1 (states (loop_of program bs) w s)
stage_states program (a ∷ code) bs w s = states (loop_of program bs) w
    (state_behind program (a ∷ code) s)

unfoldable pub further_states : {At : Type 0} → Program (Expr At) → List (Stage (Expr At))
    → List (List ℕ) → List Fraction → List (List Fraction)
further_states program [] words s = []
further_states program (g ∷ stages) [] s = []
further_states program (g ∷ stages) (w ∷ words) s =
    stage_states program g.code g.branches w s
    ++ option_map_or (further_states program stages words)
    (run_end (loop_of program g.branches) w (state_behind program g.code s)) []

abbrev pub chain_states : {At : Type 0} → Program (Expr At) → List (Stage (Expr At))
    → List (List ℕ) → List Fraction → List (List Fraction)
chain_states program stages words s = s ∷ further_states program stages words s

abbrev pub is_code : {E : Type 0} → List (Statement E) → ℕ
is_code [] = 0
is_code (a ∷ code) = 1

unfoldable pub count_codes : {E : Type 0} → List (Stage E) → ℕ
count_codes [] = 0
count_codes (g ∷ stages) = is_code g.code + count_codes stages

module _ {At : Type 0} (c : Chain (Expr At)) where
  pub record ChainRun : Type 0 where
    pub start : List Fraction
    pub words : List (List ℕ)
    pub end : List Fraction
    pub is_start : IsStart c.first start
    pub is_end : chain_end c.first (stages_of c) words start ≡ Some end

  pub record ChainInv (p : Terms Fraction) : Type 0 where
    pub arity : Arity (length c.first.names) p
    pub zero : (r : ChainRun) → value_at ℚ p r.end ≡ ℚ.zero

  pub record IsChain : Type 0 where
    pub formed : (j : ℕ) → j ≤ length c.further → IsWellFormed (loop_at c j)
