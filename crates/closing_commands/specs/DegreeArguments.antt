-- `basis [--budget N] --degree D LOOP` and `cert [--budget N] --degree D LOOP`, by the arguments behind the first.
--   Request                           what is to be shown, the budget, the degree, and the name of the file
--   most_degree                       the greatest degree
--   in_degrees n                      the number, where it is a degree: at least 1, and no greater than that
--   degree_of argument                a degree: one digit, up to most_degree_digits
--   is_degree word                    the option of a degree;  has_degree words: it stands first, or behind another option
--   request_within evidence n d file  where there are a budget and a degree
--   request_named evidence n option degree file     where the option is that of a degree
--   request_behind evidence first number option degree file     where that of a budget stands before it
--   request_in evidence words         what the arguments ask for, if they are such words
use Rattle.std.specs.Prelude.{ℕ, List, [], ◌∷◌, length, nat_le, Bool, true, false, Option, Some, None, ◌&&◌, codes, if◌then◌else◌}
use Rattle.std.specs.Str.{bytes_eq}
use Rattle.poly_text.specs.Number.{numeral_of}
use Rattle.command_parts.specs.Numerals.{usual_budget, budget_of}
use Rattle.io_edge.specs.Arguments.{is_file}
use Rattle.closing_commands.specs.declared.evidence.Evidence.{Evidence}

pub record Request : Type 0 where
  pub evidence : Evidence
  pub budget : ℕ
  pub degree : ℕ
  pub file : List ℕ

abbrev pub most_degree : ℕ
most_degree = 16

abbrev pub most_degree_digits : ℕ
most_degree_digits = 2

abbrev pub in_degrees : Option ℕ → Option ℕ
in_degrees None = None
in_degrees (Some d) = if nat_le 1 d && nat_le d most_degree then Some d else None

unfoldable pub degree_of : List ℕ → Option ℕ
degree_of argument =
    if nat_le (length argument) most_degree_digits then in_degrees (numeral_of argument) else None

abbrev pub is_degree : List ℕ → Bool
is_degree word = bytes_eq word (codes "--degree")

abbrev pub has_degree : List (List ℕ) → Bool
has_degree [] = false
has_degree (first ∷ []) = is_degree first
has_degree (first ∷ second ∷ []) = is_degree first
has_degree (first ∷ second ∷ third ∷ rest) = if is_degree first then true else is_degree third

abbrev pub request_within : Evidence → Option ℕ → Option ℕ → List ℕ → Option Request
request_within evidence None d file = None
request_within evidence (Some n) None file = None
request_within evidence (Some n) (Some d) file =
    Some (record { evidence = evidence; budget = n; degree = d; file = file })

abbrev pub request_named : Evidence → Option ℕ → List ℕ → List ℕ → List ℕ → Option Request
request_named evidence n option degree file =
    if is_degree option && is_file file
    then request_within evidence n (degree_of degree) file else None

abbrev pub request_behind : Evidence → List ℕ → List ℕ → List ℕ → List ℕ → List ℕ
    → Option Request
request_behind evidence first number option degree file =
    if bytes_eq first (codes "--budget")
    then request_named evidence (budget_of number) option degree file else None

abbrev pub request_in : Evidence → List (List ℕ) → Option Request
request_in evidence [] = None
request_in evidence (option ∷ []) = None
request_in evidence (option ∷ degree ∷ []) = None
request_in evidence (option ∷ degree ∷ file ∷ []) =
    request_named evidence (Some usual_budget) option degree file
request_in evidence (first ∷ number ∷ option ∷ degree ∷ []) = None
request_in evidence (first ∷ number ∷ option ∷ degree ∷ file ∷ []) =
    request_behind evidence first number option degree file
request_in evidence (first ∷ number ∷ option ∷ degree ∷ file ∷ more ∷ rest) = None
