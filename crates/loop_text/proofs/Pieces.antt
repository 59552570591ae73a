-- Texts in pieces, and their lexemes.
--   Piece           a blank; a keyword and a blank; a name; a sign; a digit; a number in decimals
--   written ps      the text;  said ps: its lexemes up to the end
--   is_well ps      each piece is such a one, and no word or number goes on behind it
--   pieces_lexed    so the text has these lexemes
use Rattle.std.proofs.Common.{◌≡◌, ℕ, ◌<◌, ◌+◌, ◌^◌, List, [], ◌∷◌, ◌++◌, sym, ap, ◌∙◌, Bool, true, false, not, ◌&&◌, nat_lt, codes, decimal, take_while, if◌then◌else◌, arith}
use Rattle.std.specs.Char.{is_ascii_digit}
use Rattle.std.proofs.lemmas.Bool.{and_parts, not-true, ltb-true}
use Rattle.std.proofs.lemmas.Fmt.{decimal_digit}
use Rattle.std.proofs.lemmas.List.Sums.{take_while-cons}
use Rattle.loop_model.specs.Words.{Keyword, vars_word, init_word, branch_word, when_word, is_word, keyword_of, is_plain_word}
use Rattle.poly_text.specs.Tokens.{is_sign}
use Rattle.poly_text.specs.Lexemes.{Lexeme, name, keyword, number, sign, the_end, lexeme_at, placed_behind}
use Rattle.poly_text.proofs.PrintedLexing.{at_free, lex, lex-nil, blank_lexed, sign_lexed, Ends, end_ends, blank_ends, name_lexed, number_lexed}

pub data Piece : Type 0 where
  a_blank : Piece
  a_keyword : Keyword → Piece
  a_name : List ℕ → Piece
  a_sign : ℕ → Piece
  a_digit : ℕ → Piece
  a_number : ℕ → Piece

abbrev spelling : Keyword → List ℕ
spelling vars_word = codes "vars"
spelling init_word = codes "init"
spelling branch_word = codes "branch"
spelling when_word = codes "when"

abbrev pub written : List Piece → List ℕ
written [] = []
written (a_blank ∷ ps) = 32 ∷ written ps
written (a_keyword k ∷ ps) = spelling k ++ 32 ∷ written ps
written (a_name w ∷ ps) = w ++ written ps
written (a_sign c ∷ ps) = c ∷ written ps
written (a_digit d ∷ ps) = (48 + d) ∷ written ps
written (a_number n ∷ ps) = decimal n ++ written ps

abbrev pub said : List Piece → List Lexeme
said [] = the_end ∷ []
said (a_blank ∷ ps) = said ps
said (a_keyword k ∷ ps) = keyword k ∷ said ps
said (a_name w ∷ ps) = name w ∷ said ps
said (a_sign c ∷ ps) = sign c ∷ said ps
said (a_digit d ∷ ps) = number d ∷ said ps
said (a_number n ∷ ps) = number n ∷ said ps

abbrev is_other : ℕ → Bool
is_other c = not (is_word c) && not (is_ascii_digit c)

abbrev is_apart : List Piece → Bool
is_apart [] = true
is_apart (a_blank ∷ ps) = true
is_apart (a_sign c ∷ ps) = is_other c
is_apart (p ∷ ps) = false

abbrev opens_no_guard : Keyword → Bool
opens_no_guard when_word = false
opens_no_guard k = true

abbrev pub is_well : List Piece → Bool
is_well [] = true
is_well (a_blank ∷ ps) = is_well ps
is_well (a_keyword k ∷ ps) = opens_no_guard k && is_well ps
is_well (a_name w ∷ ps) = is_plain_word w && (is_apart ps && is_well ps)
is_well (a_sign c ∷ ps) = is_sign c && is_well ps
is_well (a_digit d ∷ ps) = nat_lt d 10 && (is_apart ps && is_well ps)
is_well (a_number n ∷ ps) = nat_lt n (2 ^ 127) && (is_apart ps && is_well ps)

no_run : (p : ℕ → Bool) (c : ℕ) (cs : List ℕ) → not (p c) ≡ true → take_while p (c ∷ cs) ≡ []
no_run p c cs not_one =
    take_while-cons p c cs
    ∙ ap (λ b. if b then c ∷ take_while p cs else []) (not-true (p c) not_one)

ends : (ps : List Piece) → is_apart ps ≡ true → Ends (written ps)
ends [] is = end_ends
ends (a_blank ∷ ps) is = blank_ends (written ps)
ends (a_sign c ∷ ps) is =
    let both = and_parts (not (is_word c)) (not (is_ascii_digit c)) is in
    record {
      word = no_run is_word c (written ps) both.0;
      digits = no_run is_ascii_digit c (written ps) both.1;
    }
ends (p ∷ ps) is = absurd (cc)

keyword_lexed : (k : Keyword) (rest : List ℕ) → opens_no_guard k ≡ true
    → lex 0 (spelling k ++ 32 ∷ rest) ≡ keyword k ∷ lex 0 (32 ∷ rest)
unfolding placed_behind lexeme_at keyword_of
keyword_lexed vars_word rest is = ap (λ ls. keyword vars_word ∷ ls) (at_free (32 ∷ rest) false 4 0
    0)
keyword_lexed init_word rest is = ap (λ ls. keyword init_word ∷ ls) (at_free (32 ∷ rest) false 4 0
    0)
keyword_lexed branch_word rest is =
    ap (λ ls. keyword branch_word ∷ ls) (at_free (32 ∷ rest) false 6 0 0)
keyword_lexed when_word rest is = absurd (cc)

pub pieces_lexed : (ps : List Piece) → is_well ps ≡ true → lex 0 (written ps) ≡ said ps
pieces_lexed [] is = lex-nil
pieces_lexed (a_blank ∷ ps) is = blank_lexed (written ps) ∙ pieces_lexed ps is
pieces_lexed (a_keyword k ∷ ps) is =
    let both = and_parts (opens_no_guard k) (is_well ps) is in
    keyword_lexed k (written ps) both.0
    ∙ ap (λ ls. keyword k ∷ ls) (blank_lexed (written ps) ∙ pieces_lexed ps both.1)
pieces_lexed (a_name w ∷ ps) is =
    let both = and_parts (is_plain_word w) (is_apart ps && is_well ps) is in
    let rest = and_parts (is_apart ps) (is_well ps) both.1 in
    name_lexed w (written ps) both.0 (ends ps rest.0)
    ∙ ap (λ ls. name w ∷ ls) (pieces_lexed ps rest.1)
pieces_lexed (a_sign c ∷ ps) is =
    let both = and_parts (is_sign c) (is_well ps) is in
    sign_lexed c (written ps) both.0 ∙ ap (λ ls. sign c ∷ ls) (pieces_lexed ps both.1)
pieces_lexed (a_digit d ∷ ps) is =
    let both = and_parts (nat_lt d 10) (is_apart ps && is_well ps) is in
    let rest = and_parts (is_apart ps) (is_well ps) both.1 in
    let small : d < 10 = ltb-true d 10 both.0 in
    ap (λ ds. lex 0 (ds ++ written ps)) (sym (decimal_digit d small))
    ∙ number_lexed d (written ps) (omega (arith, small)) (ends ps rest.0)
    ∙ ap (λ ls. number d ∷ ls) (pieces_lexed ps rest.1)
pieces_lexed (a_number n ∷ ps) is =
    let both = and_parts (nat_lt n (2 ^ 127)) (is_apart ps && is_well ps) is in
    let rest = and_parts (is_apart ps) (is_well ps) both.1 in
    number_lexed n (written ps) (ltb-true n (2 ^ 127) both.0) (ends ps rest.0)
    ∙ ap (λ ls. number n ∷ ls) (pieces_lexed ps rest.1)
