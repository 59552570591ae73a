-- Raw polynomials in JSON: lists of terms, each a list of a number's text and a list of exponents. What a list of terms is in descending order.
--   every f ds              each value passes the test f
--   has_term_form d         a list of the text of a number and a list of JSON numbers
--   most_exponent           the greatest exponent
--   exponent_of d           the exponent that the value is;  exponents_of ds: those of a list
--   term_of m d             the term with m exponents whose number isn't 0
--   terms_after m found ds  these terms and behind them those of ds, if no two have the same exponents;  terms_of m ds: those of ds
--   raw_in, raw_at O m path d      the polynomial in m variables that a list is, that the value is, in descending order
use Rattle.std.specs.Prelude.{ℕ, List, [], ◌∷◌, ◌++◌, length, Bool, true, false, ◌&&◌, not, nat_le, Option, Some, None, option_map, option_and_then, Ok, if◌then◌else◌, ◌==◌, is_some}
use Rattle.std.specs.Option.{ok_or, option_map_or}
use Rattle.serde_json.specs.Data.{Data, Items, no_items, item}
use Rattle.serde_json.specs.Find.{as_array, as_str, as_number, as_u64}
use Rattle.algebra.specs.Fraction.{Fraction, is_zero, rationals}
use Rattle.polynomials.specs.Order.{Rank}
use Rattle.polynomials.specs.Terms.{Terms}
use Rattle.machines.specs.Collect.{collect}
use Rattle.poly_text.specs.Flat.{stands}
use Rattle.cert_form.specs.Form.{Reading, on, expect, list_with, entry, shape, polynomial}
use Rattle.poly_text.specs.Number.{is_number, number_of}

-- ---- the form
abbrev pub every : (Data → Bool) → Items → Bool
every f no_items = true
every f (item d ds) = f d && every f ds

abbrev pub is_number_value : Data → Bool
is_number_value d = is_some (as_number d)

abbrev pub is_number_text : Data → Bool
is_number_text d = option_map_or is_number (as_str d) false

abbrev pub is_list_of_numbers : Data → Bool
is_list_of_numbers d = option_map_or (every is_number_value) (as_array d) false

abbrev pub are_term_parts : Items → Bool
are_term_parts ds = is_number_text (entry 0 ds) && is_list_of_numbers (entry 1 ds)

abbrev pub has_term_form : Data → Bool
has_term_form d = option_map_or are_term_parts (list_with 2 d) false

-- ---- the terms
abbrev pub most_exponent : ℕ
most_exponent = 65535

abbrev pub as_exponent : ℕ → Option ℕ
as_exponent n = if nat_le n most_exponent then Some n else None

abbrev pub exponent_of : Data → Option ℕ
exponent_of d = option_and_then as_exponent (option_and_then as_u64 (as_number d))

abbrev pub exponents_of : Items → Option (List ℕ)
exponents_of no_items = Some []
exponents_of (item d ds) =
    option_and_then (λ n. option_map (λ e. n ∷ e) (exponents_of ds)) (exponent_of d)

abbrev pub valid_term : ℕ → List ℕ × Fraction → Option (List ℕ × Fraction)
valid_term m t = if not (is_zero t.1) && (length t.0 == m) then Some t else None

abbrev pub pair_of : Option Fraction → Option (List ℕ) → Option (List ℕ × Fraction)
pair_of None e = None
pair_of (Some c) None = None
pair_of (Some c) (Some e) = Some (e, c)

abbrev pub term_parts : Items → Option (List ℕ × Fraction)
term_parts ds = pair_of (option_and_then number_of (as_str (entry 0 ds)))
    (option_and_then exponents_of (as_array (entry 1 ds)))

abbrev pub term_of : ℕ → Data → Option (List ℕ × Fraction)
term_of m d = option_and_then (valid_term m) (option_and_then term_parts (list_with 2 d))

abbrev pub terms_after : ℕ → Terms Fraction → Items → Option (Terms Fraction)
terms_after m found no_items = Some found
terms_after m found (item d ds) = option_and_then (λ t.
    if stands found t.0 then None else terms_after m (found ++ t ∷ []) ds) (term_of m d)

abbrev pub terms_of : ℕ → Items → Option (Terms Fraction)
terms_of m ds = terms_after m [] ds

abbrev pub raw_in : Rank → ℕ → List ℕ → Items → Reading (Terms Fraction)
raw_in O m path ds =
    expect (every has_term_form ds) path
    (on (λ p. Ok (collect rationals O p)) (ok_or (terms_of m ds) (polynomial path)))

abbrev pub raw_at : Rank → ℕ → List ℕ → Data → Reading (Terms Fraction)
raw_at O m path d = on (raw_in O m path) (ok_or (as_array d) (shape path))
