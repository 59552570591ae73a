-- The lexemes of a text that begins with a blank, a sign, a number or a name, with a blank behind it.
--   at_free            offsets have no part in them
--   lex k text         the lexemes behind the first k bytes
--   Ends rest          no word and no number goes on in the rest
--   blank_ends         so it is of a text that begins with a blank
--   blank_lexed, sign_lexed, double_lexed, number_lexed, name_lexed     the text begins with one, of signs with a blank behind it;  lex-nil: it is empty
--   double_spelling    the bytes of a sign of two
use Rattle.std.proofs.Common.{inl, inr, ◌≡◌, ℕ, zero, suc, ◌-◌, ◌<◌, ◌≤◌, List, [], ◌∷◌, ◌++◌, map, length, refl, sym, ap, ap₂, ◌∙◌, true, false, arith, Bool, not, codes, if◌then◌else◌, ◌&&◌, ◌==◌, nat_le, ◌^◌, take_while, decimal, Option, Some, None, is_none, IsTrue}
use Rattle.std.proofs.Math.Bool.{and-false}
use Rattle.std.specs.Option.{option_map_or}
use Rattle.std.specs.List.{list_any, list_all}
use Rattle.std.specs.Char.{is_ascii_alphabetic, is_ascii_digit}
use Rattle.std.specs.Int.{is_in_range}
use Rattle.std.specs.Str.Parse.{AllDigits, digits_value}
use Rattle.std.proofs.lemmas.Bool.Decides.{nat_tests}
use Rattle.std.proofs.lemmas.Fmt.{decimal_is_IsNumeral_wide}
use Rattle.std.proofs.lemmas.List.Sums.{take_while-cons}
use Rattle.std.proofs.lemmas.Str.Parse.{digit_from_value, numerals_by_value, tells_all_ascii_digits}
use Rattle.std.specs.Str.{all_ascii_digits}
use Rattle.std.proofs.lemmas.Bool.{and_parts, and_from, or_cases, not-true, false_from_ne_true, cond-true, eqb-true, ne_eqb, leb-true, le-leb, lt-ltb}
use Rattle.program_text.specs.Words.{Keyword, is_word, is_word_text, keyword_of, is_plain_word}
use Rattle.poly_text.specs.Tokens.{is_blank, is_sign, comment_len, word_at, digits_at}
use Rattle.program_text.specs.Doubles.{Double, equal, differs, dots, double_at}
use Rattle.program_text.specs.Lexemes.{Lexeme, Placed, name, keyword, number, large, sign, double, the_end, word_of, number_of, sign_len, len_at, lexeme_at, opens_guard, placed_behind}
use Rattle.poly_text.proofs.Lexing.{is_word-letter}
use Rattle.program_text.proofs.Lexing.{placed_behind-nil, placed_behind-zero, placed_behind-suc, lexeme_in, goes_on, skipped, lexeme_cons}

-- ---- offsets have no part in it
abbrev pub lexemes_in : List Placed → List Lexeme
lexemes_in ts = map (λ (t : Placed). t.lexeme) ts

pub at_free : (text : List ℕ) (g : Bool) (at other k : ℕ) → lexemes_in (placed_behind g at k text)
    ≡ lexemes_in (placed_behind g other k text)
at_free [] g at other k = ap lexemes_in (placed_behind-nil g at k)
    ∙ sym (ap lexemes_in (placed_behind-nil g other k))
at_free (c ∷ cs) g at other (suc k) = ap lexemes_in (placed_behind-suc g at k c cs)
    ∙ at_free cs g (suc at) (suc other) k ∙ sym (ap lexemes_in (placed_behind-suc g other k c cs))
at_free (c ∷ cs) g at other zero =
    ap lexemes_in (placed_behind-zero g at c cs)
    ∙ go (is_blank c) (c == 35) (λ h k. at_free cs h (suc at) (suc other) k)
    ∙ sym (ap lexemes_in (placed_behind-zero g other c cs))
  where
    go : (blank hash : Bool) → ((h : Bool) (k : ℕ) → lexemes_in (placed_behind h (suc at) k cs)
        ≡ lexemes_in (placed_behind h (suc other) k cs))
        → lexemes_in (if blank then placed_behind g (suc at) 0 cs
        else (if hash then placed_behind g (suc at) (comment_len cs) cs
        else record { at = at; lexeme = lexeme_in g c cs } ∷ placed_behind (goes_on g c cs)
        (suc at) (skipped g c cs) cs))
        ≡ lexemes_in (if blank then placed_behind g (suc other) 0 cs
        else (if hash then placed_behind g (suc other) (comment_len cs) cs
        else record { at = other; lexeme = lexeme_in g c cs } ∷ placed_behind
        (goes_on g c cs) (suc other) (skipped g c cs) cs))
    go true hash again = again g 0
    go false true again = again g (comment_len cs)
    go false false again = ap (λ ls. lexeme_in g c cs ∷ ls)
        (again (goes_on g c cs) (skipped g c cs))

-- ---- one token
abbrev pub lex : ℕ → List ℕ → List Lexeme
lex k text = lexemes_in (placed_behind false 0 k text)

lex-suc : (k c : ℕ) (cs : List ℕ) → lex (suc k) (c ∷ cs) ≡ lex k cs
lex-suc k c cs = ap lexemes_in (placed_behind-suc false 0 k c cs) ∙ at_free cs false 1 0 k

pub lex-nil : lex 0 [] ≡ the_end ∷ []
lex-nil = ap lexemes_in (placed_behind-nil false 0 0)

lex-behind : (text rest : List ℕ) → lex (length text) (text ++ rest) ≡ lex 0 rest
lex-behind [] rest = refl
lex-behind (c ∷ cs) rest = lex-suc (length cs) c (cs ++ rest) ∙ lex-behind cs rest

pub lex-token : (c k : ℕ) (cs : List ℕ) (x : Lexeme) → is_blank c ≡ false → (c == 35) ≡ false
    → lexeme_at (c ∷ cs) ≡ x → opens_guard x ≡ false → len_at (c ∷ cs) ≡ suc k
    → lex 0 (c ∷ cs) ≡ x ∷ lex k cs
lex-token c k cs x blank hash is plain long =
    let len : len_at (c ∷ cs) - 1 ≡ k = omega arith in
    ap lexemes_in (placed_behind-zero false 0 c cs)
    ∙ ap (λ b. lexemes_in (if b then placed_behind false 1 0 cs
    else (if c == 35 then placed_behind false 1 (comment_len cs) cs
    else record { at = 0; lexeme = lexeme_at (c ∷ cs) } ∷ placed_behind
    (opens_guard (lexeme_at (c ∷ cs))) 1 (len_at (c ∷ cs) - 1) cs))) blank
    ∙ ap (λ b. lexemes_in (if b then placed_behind false 1 (comment_len cs) cs
    else record { at = 0; lexeme = lexeme_at (c ∷ cs) } ∷ placed_behind
    (opens_guard (lexeme_at (c ∷ cs))) 1 (len_at (c ∷ cs) - 1) cs)) hash
    ∙ ap₂ (λ (y : Lexeme) (n : ℕ). y ∷ lexemes_in (placed_behind (opens_guard y) 1 n cs)) is len
    ∙ ap (λ g. x ∷ lexemes_in (placed_behind g 1 k cs)) plain
    ∙ ap (λ ls. x ∷ ls) (at_free cs false 1 0 k)

pub blank_lexed : (rest : List ℕ) → lex 0 (32 ∷ rest) ≡ lex 0 rest
blank_lexed rest = ap lexemes_in (placed_behind-zero false 0 32 rest) ∙ at_free rest false 1 0 0

-- the length of a lexeme by the tests of its first byte
len_cons : (c : ℕ) (cs : List ℕ) (letter digit : Bool) → is_ascii_alphabetic c ≡ letter
    → is_ascii_digit c ≡ digit
    → len_at (c ∷ cs) ≡ (if letter then length (word_at (c ∷ cs))
    else (if digit then length (digits_at (c ∷ cs)) else sign_len c cs))
len_cons c cs letter digit e f = ap₂ (λ b k. if b then length (word_at (c ∷ cs))
    else (if k then length (digits_at (c ∷ cs)) else sign_len c cs)) e f

-- ---- signs
no_double : (c : ℕ) (rest : List ℕ) → double_at (c ∷ 32 ∷ rest) ≡ None
no_double c rest = rw (and-false (c == 61), and-false (c == 33), and-false (c == 46)) refl

passes : (p : ℕ → Bool) (c : ℕ) (cs : List ℕ) → list_all p cs ≡ true → list_any (λ s. s == c) cs
    ≡ true → p c ≡ true
passes p c [] all e = absurd (cc)
passes p c (s ∷ cs) all e = let q = and_parts (p s) (list_all p cs) all in
    elim (or_cases (s == c) (list_any (λ s. s == c) cs) e) [
      | inl h ↦ ap p (sym (eqb-true s c h))
          ∙ q.0
      | inr more ↦ passes p c cs q.1 more
    ]

-- what begins no other lexeme
abbrev stands_alone : ℕ → Bool
stands_alone c = (not (is_ascii_alphabetic c) && not (is_ascii_digit c)) &&
    (not (is_blank c) && not (c == 35))

pub sign_lexed : (c : ℕ) (rest : List ℕ) → is_sign c ≡ true
    → lex 0 (c ∷ 32 ∷ rest) ≡ sign c ∷ lex 0 (32 ∷ rest)
sign_lexed c rest is =
    let alone = and_parts (not (is_ascii_alphabetic c) && not (is_ascii_digit c))
    (not (is_blank c) && not (c == 35)) (passes stands_alone c (codes ",;=(){}+-*/^") refl
    is) in
    let front = and_parts (not (is_ascii_alphabetic c)) (not (is_ascii_digit c)) alone.0 in
    let clear = and_parts (not (is_blank c)) (not (c == 35)) alone.1 in
    let letter = not-true (is_ascii_alphabetic c) front.0 in
    let digit = not-true (is_ascii_digit c) front.1 in
    lex-token c 0 (32 ∷ rest) (sign c) (not-true (is_blank c) clear.0) (not-true (c == 35) clear.1)
    (lexeme_cons c (32 ∷ rest) false false true None letter digit is (no_double c rest)) refl
    (len_cons c (32 ∷ rest) false false letter digit
    ∙ ap (λ o. option_map_or (λ d. 2) o 1) (no_double c rest))

abbrev pub double_spelling : Double → List ℕ
double_spelling equal = codes "=="
double_spelling differs = codes "!="
double_spelling dots = codes ".."

pub double_lexed : (d : Double) (rest : List ℕ)
    → lex 0 (double_spelling d ++ 32 ∷ rest) ≡ double d ∷ lex 0 (32 ∷ rest)
unfolding placed_behind lexeme_at
double_lexed equal rest = ap (λ ls. double equal ∷ ls) (at_free (32 ∷ rest) false 2 0 0)
double_lexed differs rest = ap (λ ls. double differs ∷ ls) (at_free (32 ∷ rest) false 2 0 0)
double_lexed dots rest = ap (λ ls. double dots ∷ ls) (at_free (32 ∷ rest) false 2 0 0)

-- ---- names and numbers
pub record Ends (rest : List ℕ) : Type 0 where
  pub word : take_while is_word rest ≡ []
  pub digits : take_while is_ascii_digit rest ≡ []

pub blank_ends : (rest : List ℕ) → Ends (32 ∷ rest)
blank_ends rest = record { word = refl; digits = refl }

run_taken : (p : ℕ → Bool) (w rest : List ℕ) → list_all p w ≡ true → take_while p rest ≡ []
    → take_while p (w ++ rest) ≡ w
run_taken p [] rest all stop = stop
run_taken p (c ∷ cs) rest all stop = let q = and_parts (p c) (list_all p cs) all in
    take_while-cons p c (cs ++ rest) ∙ cond-true (p c) (c ∷ take_while p (cs ++ rest)) [] q.0
    ∙ ap (λ xs. c ∷ xs) (run_taken p cs rest q.1 stop)

in_range : (lo hi c : ℕ) → is_in_range lo hi c ≡ true → (lo ≤ c) × (c ≤ hi)
in_range lo hi c is = let both = and_parts (nat_le lo c) (nat_le c hi) is in
    (leb-true lo c both.0, leb-true c hi both.1)

out_of_range : (lo hi c : ℕ) → (lo ≤ c → c ≤ hi → ⊥) → is_in_range lo hi c ≡ false
out_of_range lo hi c out = false_from_ne_true (is_in_range lo hi c) (λ is. let both =
    in_range lo hi c is in out both.0 both.1)

pub no_blank : (c : ℕ) → 33 ≤ c → is_blank c ≡ false
no_blank c low =
    let other : (b : ℕ) → b < 33 → (c == b) ≡ false = λ b high. ne_eqb c b (λ same. omega arith) in
    rw (
      other 32 (omega arith),
      other 9 (omega arith),
      other 10 (omega arith),
      other 13 (omega arith),
    ) refl

no_comment : (c : ℕ) → 48 ≤ c → (c == 35) ≡ false
no_comment c low = grind (arith, nat_tests)

letter_low : (c : ℕ) → is_ascii_alphabetic c ≡ true → 48 ≤ c
letter_low c letter = elim (or_cases (is_in_range 65 90 c) (is_in_range 97 122 c) letter) [
  | inl upper ↦ let low = in_range 65 90 c upper in omega (arith, low.0)
  | inr lower ↦ let low = in_range 97 122 c lower in omega (arith, low.0)
]

no_letter : (c : ℕ) → c ≤ 57 → is_ascii_alphabetic c ≡ false
no_letter c high = rw (
  out_of_range 65 90 c (λ low up. omega arith),
  out_of_range 97 122 c
      (λ low up. omega arith),
) refl

a_digit : (c : ℕ) → 48 ≤ c → c ≤ 57 → is_ascii_digit c ≡ true
a_digit c low high = and_from (nat_le 48 c) (nat_le c 57) (le-leb 48 c low) (le-leb c 57 high)

pub name_lexed : (w rest : List ℕ) → IsTrue (is_plain_word w) → Ends rest
    → lex 0 (w ++ rest) ≡ name w ∷ lex 0 rest
name_lexed [] rest plain ends = absurd (cc)
name_lexed (c ∷ cs) rest plain ends =
    let parts = and_parts (is_word_text (c ∷ cs)) (is_none (keyword_of (c ∷ cs))) plain in
    let word = and_parts (is_ascii_alphabetic c) (list_all is_word cs) parts.0 in
    let letter : is_ascii_alphabetic c ≡ true = word.0 in
    let taken : take_while is_word ((c ∷ cs) ++ rest) ≡ c ∷ cs = run_taken is_word (c ∷ cs) rest
    (and_from (is_word c) (list_all is_word cs) (is_word-letter c letter) word.1) ends.word in
    let low = letter_low c letter in
    let front : lexeme_at (c ∷ (cs ++ rest)) ≡ name (c ∷ cs) =
    lexeme_cons c (cs ++ rest) true (is_ascii_digit c) (is_sign c)
    (double_at (c ∷ (cs ++ rest))) letter refl refl refl
    ∙ ap word_of taken ∙ no_keyword (keyword_of (c ∷ cs)) (c ∷ cs) parts.1 in
    let len : len_at (c ∷ (cs ++ rest)) ≡ suc (length cs) =
    len_cons c (cs ++ rest) true (is_ascii_digit c) letter refl ∙ ap length taken in
    lex-token c (length cs) (cs ++ rest) (name (c ∷ cs)) (no_blank c (omega (arith, low)))
    (no_comment c low) front refl len ∙ ap (λ ls. name (c ∷ cs) ∷ ls) (lex-behind cs rest)
  where
    no_keyword : (k : Option Keyword) (w : List ℕ) → is_none k ≡ true
        → option_map_or keyword k (name w) ≡ name w
    no_keyword None w none = refl
    no_keyword (Some k) w none = absurd (cc)

digits_lexed : (ds rest : List ℕ) (n : ℕ) → 0 < length ds → AllDigits 10 ds → digits_value 10 ds ≡ n
    → n < 2 ^ 127 → Ends rest → lex 0 (ds ++ rest) ≡ number n ∷ lex 0 rest
digits_lexed [] rest n some are value small ends = absurd (omega arith)
digits_lexed (c ∷ cs) rest n some are value small ends =
    let range = digit_from_value c are.0 in
    let letter : is_ascii_alphabetic c ≡ false = no_letter c range.1 in
    let digit : is_ascii_digit c ≡ true = a_digit c range.0 range.1 in
    let taken : take_while is_ascii_digit ((c ∷ cs) ++ rest) ≡ c ∷ cs =
    run_taken is_ascii_digit (c ∷ cs) rest
    ((numerals_by_value (λ ds. all_ascii_digits ds ≡ true) tells_all_ascii_digits).from (c ∷ cs)
    are) ends.digits in
    let low : 48 ≤ c = range.0 in
    let front : lexeme_at (c ∷ (cs ++ rest)) ≡ number n =
    lexeme_cons c (cs ++ rest) false true (is_sign c) (double_at (c ∷ (cs ++ rest))) letter digit
    refl refl
    ∙ ap (λ ds. number_of (digits_value 10 ds)) taken ∙ ap number_of value
    ∙ ap (λ b. if b then number n else large) (lt-ltb n (2 ^ 127) small) in
    let len : len_at (c ∷ (cs ++ rest)) ≡ suc (length cs) =
    len_cons c (cs ++ rest) false true letter digit ∙ ap length taken in
    lex-token c (length cs) (cs ++ rest) (number n) (no_blank c (omega (arith, low)))
    (no_comment c low) front refl len ∙ ap (λ ls. number n ∷ ls) (lex-behind cs rest)

pub number_lexed : (n : ℕ) (rest : List ℕ) → n < 2 ^ 127 → Ends rest → lex 0 (decimal n ++ rest)
    ≡ number n ∷ lex 0 rest
number_lexed n rest small ends = let is = decimal_is_IsNumeral_wide n (omega arith) in
    digits_lexed (decimal n) rest n is.0.0 is.0.1 is.1 small ends
