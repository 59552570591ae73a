-- Numbers as texts: an optional minus sign, digits, and optionally a slash and digits.
--   is_digits text          digits, one at least
--   unsigned text           the text without a minus sign in front;  slash_in text: where its slash stands
--   is_number text          the text is of that form
--   numeral_of digits       the number that digits are, where it is at most 2^127 - 1
--   quotient_of n d         n over d in lowest terms, where both are there and d isn't 0
--   amount_of text          the fraction of a text without a sign
--   number_of text          the fraction that the text is, where its numbers are at most 2^127 - 1 and it isn't divided by 0
use Rattle.std.specs.Prelude.{ℕ, zero, suc, ◌+◌, ◌^◌, pos, ◌&&◌, Bool, nat_lt, List, [], ◌∷◌, length, take, drop, position, ◌==◌, if◌then◌else◌, Option, Some, None, option_map}
use Rattle.std.specs.Str.{all_ascii_digits}
use Rattle.std.specs.Str.Parse.{digits_value}
use Rattle.algebra.specs.Fraction.{Fraction, over, whole, opposite}
use Rattle.loop_model.specs.Ascii.{minus_sign, slash}

-- ---- the form
unfoldable pub is_digits : List ℕ → Bool
is_digits text = nat_lt 0 (length text) && all_ascii_digits text

abbrev pub slash_in : List ℕ → Option ℕ
slash_in text = position (λ c. c == slash) text

abbrev pub is_amount_at : List ℕ → Option ℕ → Bool
is_amount_at text None = is_digits text
is_amount_at text (Some place) = is_digits (take place text) && is_digits (drop (place + 1) text)

unfoldable pub is_amount : List ℕ → Bool
is_amount text = is_amount_at text (slash_in text)

unfoldable pub unsigned : List ℕ → List ℕ
unsigned [] = []
unsigned (c ∷ cs) = if c == minus_sign then cs else c ∷ cs

abbrev pub is_number : List ℕ → Bool
is_number text = is_amount (unsigned text)

-- ---- the fraction
abbrev pub numeral_bound : ℕ
numeral_bound = 2 ^ 127

abbrev pub decimal_value : List ℕ → ℕ
decimal_value digits = digits_value 10 digits

unfoldable pub numeral_of : List ℕ → Option ℕ
numeral_of digits =
    if nat_lt 0 (length digits)
    && (all_ascii_digits digits && nat_lt (decimal_value digits) numeral_bound)
    then Some (decimal_value digits) else None

abbrev pub quotient_of : Option ℕ → Option ℕ → Option Fraction
quotient_of None d = None
quotient_of (Some n) None = None
quotient_of (Some n) (Some zero) = None
quotient_of (Some n) (Some (suc d)) = Some (over (pos n) (suc d))

abbrev pub amount_at : List ℕ → Option ℕ → Option Fraction
amount_at text None = option_map (λ n. whole (pos n)) (numeral_of text)
amount_at text (Some place) =
    quotient_of (numeral_of (take place text)) (numeral_of (drop (place + 1) text))

unfoldable pub amount_of : List ℕ → Option Fraction
amount_of text = amount_at text (slash_in text)

unfoldable pub number_of : List ℕ → Option Fraction
number_of [] = None
number_of (c ∷ cs) =
    if c == minus_sign then option_map opposite (amount_of cs) else amount_of (c ∷ cs)
