-- The budget of an analysis, the number of loops of the family, the letters of a run and the values of its start, as they stand in the arguments.
--   most_letters, most_values    how many may stand in a argument
--   parts text           the parts of a text between its commas
--   usual_budget         the budget where no other is given;  most_budget: the greatest
--   in_budgets n         the number, where it is a budget: at least 1, and no greater than that
--   budget_of argument       a budget: one digit, up to most_budget_digits
--   most_counted         how many loops of the family may be asked for
--   in_counts n          the number, where it is at least 1, and no greater than that
--   count_of argument        how many loops: one digit, up to most_count_digits
--   letter_of part       a letter: one digit, up to most_letter_digits
--   each_of f parts      what the parts are by f, if each is something
--   letters_of text      the letters in the text, if it is empty, or at most most_letters letters with commas between them
--   values_of text       the values in the text, each a number (poly_text, Number), if it is one value, up to most_values, with commas between them
use Rattle.std.specs.Prelude.{ℕ, ◌&&◌, nat_le, List, [], ◌∷◌, length, ◌==◌, if◌then◌else◌, Option, Some, None, is_some}
use Rattle.std.specs.List.{slice_split, list_all, filter_map}
use Rattle.algebra.specs.Fraction.{Fraction}
use Rattle.loop_model.specs.Ascii.{comma}
use Rattle.poly_text.specs.Number.{numeral_of, number_of}

abbrev pub most_letters : ℕ
most_letters = 4096

abbrev pub most_values : ℕ
most_values = 12

abbrev pub parts : List ℕ → List (List ℕ)
parts text = slice_split (λ c. c == comma) text

abbrev pub usual_budget : ℕ
usual_budget = 200000

abbrev pub most_budget : ℕ
most_budget = 1000000

abbrev pub most_budget_digits : ℕ
most_budget_digits = 7

abbrev pub in_budgets : Option ℕ → Option ℕ
in_budgets None = None
in_budgets (Some n) = if nat_le 1 n && nat_le n most_budget then Some n else None

unfoldable pub budget_of : List ℕ → Option ℕ
budget_of argument =
    if nat_le (length argument) most_budget_digits then in_budgets (numeral_of argument) else None

abbrev pub most_counted : ℕ
most_counted = 1000

abbrev pub most_count_digits : ℕ
most_count_digits = 4

abbrev pub in_counts : Option ℕ → Option ℕ
in_counts None = None
in_counts (Some n) = if nat_le 1 n && nat_le n most_counted then Some n else None

unfoldable pub count_of : List ℕ → Option ℕ
count_of argument = if nat_le (length argument) most_count_digits
    then in_counts (numeral_of argument) else None

abbrev pub most_letter_digits : ℕ
most_letter_digits = 9

unfoldable pub letter_of : List ℕ → Option ℕ
letter_of part = if nat_le (length part) most_letter_digits then numeral_of part else None

abbrev pub each_of : {A : Type 0} → (List ℕ → Option A) → List (List ℕ) → Option (List A)
each_of f parts = if list_all (λ part. is_some (f part)) parts then Some (filter_map f parts)
    else None

unfoldable pub letters_of : List ℕ → Option (List ℕ)
letters_of [] = Some []
letters_of (c ∷ cs) =
    if nat_le (length (parts (c ∷ cs))) most_letters
    then each_of letter_of (parts (c ∷ cs)) else None

unfoldable pub values_of : List ℕ → Option (List Fraction)
values_of text =
    if nat_le (length (parts text)) most_values then each_of number_of (parts text) else None
