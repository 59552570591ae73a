-- The grammar of flat polynomials, with what is at fault and what is built.
--   flat  = [ "-" ] item { ("+" | "-") item }
--   item  = (number [ "/" number ] | power) { "*" power }
--   power = name [ "^" number ]
--   FlatContext          the names and the terms that were read; of the item that is read whether it is negative, its numerator and denominator, and its exponents, one a name; and the place
--                        of the name whose power is read
--   most_power           the highest exponent of a name in an item
--   fits, raise e i n    whether the exponent at the place i is no higher with n more; the exponents with n more there
--   stands found e       one of the terms found has the exponents e
--   with_power c n, with_item c     the item with one power more; the terms found and then the item
--   at_item names found negative    nothing of the next item was read
--   flat_language        what its rule says: an exponent must follow a name if one more is too many
--   whole_flat           up to the end of the text
--   flat_of names bytes  the terms in the order of the text, each with one exponent a name; an item with the number 0 is a term too. None where the bytes are no text
use Rattle.std.specs.Prelude.{⊤, ℕ, pos, ◌+◌, Bool, true, false, nat_le, if◌then◌else◌, List, [], ◌∷◌, ◌++◌, length, replicate, slice_index, set, Option, Some, None, Ok, Err, unwrap_or, is_some}
use Rattle.std.specs.List.{list_any}
use Rattle.std.specs.Str.{bytes_eq}
use Rattle.algebra.specs.Fraction.{Fraction, over}
use Rattle.frac128.specs.Sums.{negate_if}
use Rattle.polynomials.specs.Terms.{Terms}
use Rattle.loop_model.specs.Ascii.{star, plus_sign, minus_sign, slash, caret}
use Rattle.loop_model.specs.Names.{place_of}
use Rattle.grammars.specs.Grammar.{State, Grammar, Language, token, change, sequence, either, many, rule, optional, plain}
use Rattle.grammars.specs.Reader.{read_whole}
use Rattle.poly_text.specs.Lexemes.{Lexeme, tokens, is_sign_of}
use Rattle.poly_text.specs.Kinds.{Kind, a_name, a_number, an_end, a_sign, same, kind_of, sample, word_in}
use Rattle.poly_text.specs.Reasons.{Reason, limit, divisor, unknown, twice, unless}
use Rattle.poly_text.specs.Sums.{number_of}
use Rattle.poly_text.specs.Told.{Told, told}

pub record FlatContext : Type 0 where
  pub names : List (List ℕ)
  pub found : Terms Fraction
  pub negative : Bool
  pub numerator : ℕ
  pub denominator : ℕ
  pub exponents : List ℕ
  pub place : ℕ

abbrev pub FlatState : Type 0
FlatState = State FlatContext ⊤

-- ---- what is at fault
abbrev pub most_power : ℕ
most_power = 65535

abbrev pub fits : List ℕ → ℕ → ℕ → Bool
fits e i n = nat_le (slice_index e i + n) most_power

abbrev pub stands : Terms Fraction → List ℕ → Bool
stands found e = list_any (λ t. bytes_eq t.0 e) found

abbrev pub name_fault : FlatContext → List ℕ → Option Reason
name_fault c w = unless (is_some (place_of c.names w)) unknown

abbrev pub power_fault : FlatContext → ℕ → Option Reason
power_fault c n = unless (fits c.exponents c.place n) limit

abbrev pub item_fault : FlatContext → Option Reason
item_fault c = if stands c.found c.exponents then Some twice else None

-- ---- what is built
abbrev pub raise : List ℕ → ℕ → ℕ → List ℕ
raise e i n = set e i (slice_index e i + n)

abbrev pub with_power : FlatContext → ℕ → FlatContext
with_power c n = record c { exponents = raise c.exponents c.place n; place = 0 }

abbrev pub signed_over : Bool → ℕ → ℕ → Fraction
signed_over negative n d = over (negate_if negative (pos n)) d

abbrev pub with_item : FlatContext → FlatContext
with_item c =
    record c {
      found = c.found ++ (c.exponents, signed_over c.negative c.numerator c.denominator)
          ∷ [];
    }

abbrev pub no_exponents : List (List ℕ) → List ℕ
no_exponents names = replicate (length names) 0

abbrev pub at_item : List (List ℕ) → Terms Fraction → Bool → FlatContext
at_item names found negative = record {
  names = names;
  found = found;
  negative = negative;
  numerator = 1;
  denominator = 1;
  exponents = no_exponents names;
  place = 0;
}

-- ---- the grammar
pub data FlatRule : Type 0 where
  an_exponent : FlatRule

abbrev pub Rule : Type 0
Rule = Grammar FlatRule Kind Lexeme FlatContext ⊤ Reason

abbrev pub takes : List Kind → (FlatContext → Lexeme → Option Reason)
    → (FlatContext → Lexeme → FlatContext) → Rule
takes ks fault next = token ks fault next (λ c x v. v)

abbrev pub sign_token : ℕ → Rule
sign_token b = plain (a_sign b ∷ [])

abbrev pub name_token : Rule
name_token = takes (a_name ∷ []) (λ c x. name_fault c (word_in x))
    (λ c x. record c { place = unwrap_or (place_of c.names (word_in x)) 0 })

abbrev pub exponent_token : Rule
exponent_token = takes (a_number ∷ []) (λ c x. power_fault c (number_of x)) (λ c x.
    with_power c (number_of x))

abbrev pub raising : Rule
raising = sequence (sign_token caret) exponent_token

abbrev pub rule_says : FlatRule → FlatContext → Rule
rule_says an_exponent c =
    if fits c.exponents c.place 1 then either raising (change (λ c. with_power c 1) (λ c v. v))
    else raising

abbrev pub power : Rule
power = sequence name_token (rule an_exponent)

abbrev pub factor : Rule
factor = sequence (sign_token star) power

abbrev pub numerator_token : Rule
numerator_token = takes (a_number ∷ []) (λ c x. None) (λ c x. record c { numerator = number_of x })

abbrev pub denominator_token : Rule
denominator_token = takes (a_number ∷ []) (λ c x. unless (nat_le 1 (number_of x)) divisor)
    (λ c x. record c { denominator = number_of x })

abbrev pub division : Rule
division = optional (sequence (sign_token slash) denominator_token)

abbrev pub coefficient : Rule
coefficient = sequence numerator_token division

abbrev pub first_part : Rule
first_part = either coefficient power

abbrev pub item : Rule
item = sequence first_part (many factor)

abbrev pub operator_token : Rule
operator_token = takes (a_sign plus_sign ∷ a_sign minus_sign ∷ []) (λ c x. item_fault c)
    (λ c x. at_item c.names (with_item c).found (is_sign_of x minus_sign))

abbrev pub minus_token : Rule
minus_token = takes (a_sign minus_sign ∷ []) (λ c x. None) (λ c x. record c { negative = true })

abbrev pub next_item : Rule
next_item = sequence operator_token item

abbrev pub flat : Rule
flat = sequence (optional minus_token) (sequence item (many next_item))

abbrev pub the_end : Rule
the_end = takes (an_end ∷ []) (λ c x. item_fault c) (λ c x. with_item c)

abbrev pub whole_flat : List Rule
whole_flat = flat ∷ the_end ∷ []

abbrev pub flat_language : Language FlatRule Kind Lexeme FlatContext ⊤ Reason
flat_language = record {
  same = same;
  kind = kind_of;
  says = rule_says;
  begins = λ n. a_sign caret ∷ [];
  empty = λ n. true;
  follows = λ n. a_sign star ∷ a_sign plus_sign ∷ a_sign minus_sign ∷ an_end ∷ [];
  sample = sample;
}

abbrev pub start : List (List ℕ) → FlatState
start names = record { context = at_item names [] false; value = tt }

abbrev pub terms_told : Told FlatContext ⊤ → Option (Terms Fraction)
terms_told (Ok r) = Some r.0.context.found
terms_told (Err f) = None

unfoldable pub flat_of : List (List ℕ) → List ℕ → Option (Terms Fraction)
flat_of names bytes =
    terms_told (told (read_whole flat_language whole_flat (start names) (tokens bytes)))
