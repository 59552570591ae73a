-- `gen NUMBER`, by the arguments behind `gen`.
--   request_in arguments       how many loops of the family the arguments ask for, if they are such arguments
use Rattle.std.specs.Prelude.{ℕ, List, [], ◌∷◌, Option, None}
use Rattle.command_parts.specs.Numerals.{count_of}

abbrev pub request_in : List (List ℕ) → Option ℕ
request_in [] = None
request_in (number ∷ []) = count_of number
request_in (number ∷ more ∷ rest) = None
