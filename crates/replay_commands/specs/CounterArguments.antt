-- `counter [--length N] LOOP EQUATION`, by the arguments behind `counter`.
--   Request                       the greatest length of words, the name of the file, and the
--     equation
--   usual_length, most_length     the length where no other is given, and the greatest
--   length_of word                a length: one digit, from 0 to the greatest
--   request_within n file equation     where there is a length
--   request_in words              what the arguments ask for, if they are such words
use Rattle.std.specs.Prelude.{ℕ, ◌+◌, ◌-◌, List, [], ◌∷◌, Option, Some, None, ◌&&◌, nat_le, codes, if◌then◌else◌}
use Rattle.std.specs.Str.{bytes_eq}
use Rattle.io_edge.specs.Arguments.{is_file}

pub record Request : Type 0 where
  pub most : ℕ
  pub file : List ℕ
  pub equation : List ℕ

abbrev pub usual_length : ℕ
usual_length = 4

abbrev pub most_length : ℕ
most_length = 6

-- the code of the digit 0
abbrev pub zero_digit : ℕ
zero_digit = 48

abbrev pub length_of : List ℕ → Option ℕ
length_of [] = None
length_of (digit ∷ []) =
    if nat_le zero_digit digit && nat_le digit (zero_digit + most_length)
    then Some (digit - zero_digit) else None
length_of (digit ∷ more ∷ rest) = None

abbrev pub request_within : Option ℕ → List ℕ → List ℕ → Option Request
request_within None file equation = None
request_within (Some n) file equation = Some (record { most = n; file = file; equation = equation })

abbrev pub request_in : List (List ℕ) → Option Request
request_in [] = None
request_in (file ∷ []) = None
request_in (file ∷ equation ∷ []) =
    if is_file file then request_within (Some usual_length) file equation else None
request_in (option ∷ number ∷ file ∷ []) = None
request_in (option ∷ number ∷ file ∷ equation ∷ []) =
    if bytes_eq option (codes "--length") && is_file file
    then request_within (length_of number) file equation else None
request_in (option ∷ number ∷ file ∷ equation ∷ more ∷ rest) = None
