-- `member [--budget N] LOOP EQUATION`, by the arguments behind the first.
--   Request                           the budget, the name of the file, and the equation
--   request_within n file equation    where there is a budget
--   request_in arguments                  what the arguments ask for, if they are such arguments
use Rattle.std.specs.Prelude.{ℕ, List, [], ◌∷◌, Option, Some, None, ◌&&◌, codes, if◌then◌else◌}
use Rattle.std.specs.Str.{bytes_eq}
use Rattle.command_parts.specs.Numerals.{usual_budget, budget_of}
use Rattle.io_edge.specs.Arguments.{is_file}

pub record Request : Type 0 where
  pub budget : ℕ
  pub file : List ℕ
  pub equation : List ℕ

abbrev pub request_within : Option ℕ → List ℕ → List ℕ → Option Request
request_within None file equation = None
request_within (Some n) file equation =
    Some (record { budget = n; file = file; equation = equation })

abbrev pub request_in : List (List ℕ) → Option Request
request_in [] = None
request_in (file ∷ []) = None
request_in (file ∷ equation ∷ []) =
    if is_file file then request_within (Some usual_budget) file equation else None
request_in (option ∷ number ∷ file ∷ []) = None
request_in (option ∷ number ∷ file ∷ equation ∷ []) =
    if bytes_eq option (codes "--budget") && is_file file
    then request_within (budget_of number) file equation else None
request_in (option ∷ number ∷ file ∷ equation ∷ more ∷ rest) = None
