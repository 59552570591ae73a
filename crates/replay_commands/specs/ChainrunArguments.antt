-- `chainrun CHAIN WORDS VALUES`, by the arguments behind `chainrun`.
--   Request                the name of the file, the letters of each word and the values
--   word_parts text        the parts of a text between its slashes
--   letter_count word      how many letters a word of letters has: none, or one more than commas
--   words_in text          the words in the text, if each has letters, all together at most most_letters
--   request_of file words values      where there are words and values
--   request_in words       what the arguments ask for, if they are such words
use Rattle.std.specs.Prelude.{ℕ, List, [], ◌∷◌, length, sum_by, nat_le, ◌==◌, Option, Some, None, if◌then◌else◌}
use Rattle.std.specs.List.{slice_split}
use Rattle.algebra.specs.Fraction.{Fraction}
use Rattle.loop_model.specs.Ascii.{slash}
use Rattle.command_parts.specs.Numerals.{most_letters, parts, each_of, letters_of, values_of}
use Rattle.io_edge.specs.Arguments.{is_file}

pub record Request : Type 0 where
  pub file : List ℕ
  pub words : List (List ℕ)
  pub values : List Fraction

abbrev pub word_parts : List ℕ → List (List ℕ)
word_parts text = slice_split (λ c. c == slash) text

abbrev pub letter_count : List ℕ → ℕ
letter_count [] = 0
letter_count (c ∷ cs) = length (parts (c ∷ cs))

unfoldable pub words_in : List ℕ → Option (List (List ℕ))
words_in text =
    if nat_le (sum_by letter_count (word_parts text)) most_letters
    then each_of letters_of (word_parts text) else None

abbrev pub request_of : List ℕ → Option (List (List ℕ)) → Option (List Fraction) → Option Request
request_of file None values = None
request_of file (Some words) None = None
request_of file (Some words) (Some values) =
    Some (record { file = file; words = words; values = values })

abbrev pub request_in : List (List ℕ) → Option Request
request_in [] = None
request_in (file ∷ []) = None
request_in (file ∷ letters ∷ []) = None
request_in (file ∷ letters ∷ values ∷ []) =
    if is_file file then request_of file (words_in letters) (values_of values) else None
request_in (file ∷ letters ∷ values ∷ more ∷ rest) = None
