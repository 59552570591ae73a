-- `[--budget N] FILE`: a file, and the budget for what is computed of it.
--   FileRequest            the budget, and the name of the file
--   request_within n file  where there is a budget
--   request_in arguments       what the arguments ask for, if they are such arguments
use Rattle.std.specs.Prelude.{ℕ, List, [], ◌∷◌, Option, Some, None, ◌&&◌, codes, if◌then◌else◌}
use Rattle.std.specs.Str.{bytes_eq}
use Rattle.io_edge.specs.Arguments.{is_file}
use Rattle.command_parts.specs.Numerals.{usual_budget, budget_of}

pub record FileRequest : Type 0 where
  pub budget : ℕ
  pub file : List ℕ

abbrev pub request_within : Option ℕ → List ℕ → Option FileRequest
request_within None file = None
request_within (Some n) file = Some (record { budget = n; file = file })

abbrev pub request_in : List (List ℕ) → Option FileRequest
request_in [] = None
request_in (file ∷ []) = if is_file file then request_within (Some usual_budget) file else None
request_in (option ∷ number ∷ []) = None
request_in (option ∷ number ∷ file ∷ []) =
    if bytes_eq option (codes "--budget") && is_file file
    then request_within (budget_of number) file else None
request_in (option ∷ number ∷ file ∷ more ∷ rest) = None
