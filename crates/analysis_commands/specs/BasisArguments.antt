-- `basis [--budget N] LOOP` and `cert [--budget N] LOOP`, by the arguments behind the first.
--   Request                what is to be told, the budget, and the name of the file
--   request_within kind n file      where there is a budget
--   request_in kind arguments  what the arguments ask for, if they are such arguments
use Rattle.std.specs.Prelude.{ℕ, List, [], ◌∷◌, Option, Some, None, ◌&&◌, codes, if◌then◌else◌}
use Rattle.std.specs.Str.{bytes_eq}
use Rattle.command_parts.specs.Numerals.{usual_budget, budget_of}
use Rattle.io_edge.specs.Arguments.{is_file}
use Rattle.analysis_commands.specs.declared.kind.Kind.{Kind}

pub record Request : Type 0 where
  pub kind : Kind
  pub budget : ℕ
  pub file : List ℕ

abbrev pub request_within : Kind → Option ℕ → List ℕ → Option Request
request_within kind None file = None
request_within kind (Some n) file = Some (record { kind = kind; budget = n; file = file })

abbrev pub request_in : Kind → List (List ℕ) → Option Request
request_in kind [] = None
request_in kind (file ∷ []) =
    if is_file file then request_within kind (Some usual_budget) file else None
request_in kind (option ∷ number ∷ []) = None
request_in kind (option ∷ number ∷ file ∷ []) =
    if bytes_eq option (codes "--budget") && is_file file
    then request_within kind (budget_of number) file else None
request_in kind (option ∷ number ∷ file ∷ more ∷ rest) = None
