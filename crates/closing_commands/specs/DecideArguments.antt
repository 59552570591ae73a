-- `decide [--budget N] LOOP EQUATION` and `prove [--budget N] LOOP EQUATION`, by the arguments behind the first.
--   Request                           what a yes is to show, the budget, the name of the file, and the equation
--   request_within evidence n file equation    where there is a budget
--   request_in evidence words         what the arguments ask for, if they are such words
use Rattle.std.specs.Prelude.{ℕ, List, [], ◌∷◌, Option, Some, None, ◌&&◌, codes, if◌then◌else◌}
use Rattle.std.specs.Str.{bytes_eq}
use Rattle.command_parts.specs.Numerals.{usual_budget, budget_of}
use Rattle.io_edge.specs.Arguments.{is_file}
use Rattle.closing_commands.specs.declared.evidence.Evidence.{Evidence}

pub record Request : Type 0 where
  pub evidence : Evidence
  pub budget : ℕ
  pub file : List ℕ
  pub equation : List ℕ

abbrev pub request_within : Evidence → Option ℕ → List ℕ → List ℕ → Option Request
request_within evidence None file equation = None
request_within evidence (Some n) file equation = Some (record {
  evidence = evidence;
  budget = n;
  file = file;
  equation = equation;
})

abbrev pub request_in : Evidence → List (List ℕ) → Option Request
request_in evidence [] = None
request_in evidence (file ∷ []) = None
request_in evidence (file ∷ equation ∷ []) =
    if is_file file then request_within evidence (Some usual_budget) file equation else None
request_in evidence (option ∷ number ∷ file ∷ []) = None
request_in evidence (option ∷ number ∷ file ∷ equation ∷ []) =
    if bytes_eq option (codes "--budget") && is_file file
    then request_within evidence (budget_of number) file equation else None
request_in evidence (option ∷ number ∷ file ∷ equation ∷ more ∷ rest) = None
