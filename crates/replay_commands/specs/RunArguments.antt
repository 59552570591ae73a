-- `run LOOP WORD VALUES`, by the arguments behind `run`.
--   Request                the name of the file, the letters and the values
--   request_of text word values       where there are letters and values
--   request_in words       what the arguments ask for, if they are such words
use Rattle.std.specs.Prelude.{ℕ, List, [], ◌∷◌, Option, Some, None, if◌then◌else◌}
use Rattle.algebra.specs.Fraction.{Fraction}
use Rattle.command_parts.specs.Numerals.{letters_of, values_of}
use Rattle.io_edge.specs.Arguments.{is_file}

pub record Request : Type 0 where
  pub file : List ℕ
  pub word : List ℕ
  pub values : List Fraction

abbrev pub request_of : List ℕ → Option (List ℕ) → Option (List Fraction) → Option Request
request_of file None values = None
request_of file (Some word) None = None
request_of file (Some word) (Some values) =
    Some (record { file = file; word = word; values = values })

abbrev pub request_in : List (List ℕ) → Option Request
request_in [] = None
request_in (file ∷ []) = None
request_in (file ∷ letters ∷ []) = None
request_in (file ∷ letters ∷ values ∷ []) =
    if is_file file then request_of file (letters_of letters) (values_of values) else None
request_in (file ∷ letters ∷ values ∷ more ∷ rest) = None
