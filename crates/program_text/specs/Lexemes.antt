-- What a text is for a grammar: its tokens with their offsets. The end of the text is one of them.
--   Lexeme                  a name or a keyword; a number of at most 2^127 - 1, or a larger one; a sign of one byte or of two; a byte of a guard; a byte that begins no token; the end
--   Placed                  a lexeme and its offset
--   is_item c               a byte that may stand in a guard
--   word_of w, number_of n  the lexeme of a word, and of digits with the value n
--   lexeme_at text          the lexeme at the front
--   item_of c               the lexeme of a byte in a guard; item_len text: how many bytes the one at the front has
--   is_sign_of x c          whether x is the sign c;  is_end_of x: whether x is the end
--   opens_guard x           whether a guard follows: x is the keyword if or while
--   len_at text             the length of the token at the front; sign_at text: its lexeme, where it is no word and no number
--   placed_behind g at k text    the tokens behind the first k bytes of a text that begins at the offset at; g says whether a guard goes on
--   tokens text             all of them; tokens_from text from: by an offset in the text; guard_from: by one in a guard
--   lexemes text            all lexemes, without their offsets
use Rattle.std.specs.Prelude.{ℕ, zero, suc, ◌-◌, Bool, true, false, not, ◌&&◌, ◌||◌, nat_le, nat_lt, List, [], ◌∷◌, ◌==◌, if◌then◌else◌, drop, map, length}
use Rattle.std.specs.Option.{option_map_or}
use Rattle.std.specs.Char.{is_ascii_alphabetic, is_ascii_digit}
use Rattle.std.specs.Str.Parse.{digits_value}
use Rattle.grammars.specs.Grammar as grammar
use Rattle.poly_text.specs.Tokens.{is_blank, is_sign, comment_len, word_at, digits_at, number_limit}
use Rattle.program_text.specs.Doubles.{Double, double_at}
use Rattle.loop_model.specs.Ascii.{exclamation_mark, hash, semicolon, left_brace, right_brace, tilde}
use Rattle.program_text.specs.Words.{Keyword, if_word, while_word, keyword_of}

pub data Lexeme : Type 0 where
  name : List ℕ → Lexeme
  keyword : Keyword → Lexeme
  number : ℕ → Lexeme
  large : Lexeme
  sign : ℕ → Lexeme
  double : Double → Lexeme
  item : ℕ → Lexeme
  bad : Lexeme
  the_end : Lexeme

abbrev pub Placed : Type 0
Placed = grammar.Placed Lexeme

abbrev pub is_item : ℕ → Bool
is_item c =
    nat_le exclamation_mark c && (nat_le c tilde
    && not (c == left_brace || (c == right_brace || (c == semicolon || c == hash))))

abbrev pub word_of : List ℕ → Lexeme
word_of w = option_map_or keyword (keyword_of w) (name w)

abbrev pub number_of : ℕ → Lexeme
number_of n = if nat_lt n number_limit then number n else large

abbrev pub sign_at : ℕ → List ℕ → Lexeme
sign_at c cs = option_map_or double (double_at (c ∷ cs)) (if is_sign c then sign c else bad)

abbrev pub sign_len : ℕ → List ℕ → ℕ
sign_len c cs = option_map_or (λ d. 2) (double_at (c ∷ cs)) 1

abbrev pub len_at : List ℕ → ℕ
len_at [] = 0
len_at (c ∷ cs) =
    if is_ascii_alphabetic c then length (word_at (c ∷ cs))
    else (if is_ascii_digit c then length (digits_at (c ∷ cs)) else sign_len c cs)

unfoldable pub lexeme_at : List ℕ → Lexeme
lexeme_at [] = the_end
lexeme_at (c ∷ cs) =
    if is_ascii_alphabetic c then word_of (word_at (c ∷ cs))
    else (if is_ascii_digit c then number_of (digits_value 10 (digits_at (c ∷ cs)))
    else sign_at c cs)

abbrev pub item_of : ℕ → Lexeme
item_of c = if c == left_brace then sign c else (if is_item c then item c else bad)

abbrev pub item_len : List ℕ → ℕ
item_len [] = 0
item_len (c ∷ cs) = 1

abbrev pub is_sign_of : Lexeme → ℕ → Bool
is_sign_of (sign b) c = b == c
is_sign_of x c = false

abbrev pub is_end_of : Lexeme → Bool
is_end_of the_end = true
is_end_of x = false

abbrev pub opens_guard : Lexeme → Bool
opens_guard (keyword if_word) = true
opens_guard (keyword while_word) = true
opens_guard x = false

unfoldable pub placed_behind : Bool → ℕ → ℕ → List ℕ → List Placed
placed_behind g at k [] = record { at = at; lexeme = the_end } ∷ []
placed_behind g at (suc k) (c ∷ cs) = placed_behind g (suc at) k cs
placed_behind false at zero (c ∷ cs) =
    if is_blank c then placed_behind false (suc at) 0 cs
    else (if c == hash then placed_behind false (suc at) (comment_len cs) cs
    else record { at = at; lexeme = lexeme_at (c ∷ cs) }
    ∷ placed_behind (opens_guard (lexeme_at (c ∷ cs))) (suc at) (len_at (c ∷ cs) - 1) cs)
placed_behind true at zero (c ∷ cs) =
    if is_blank c then placed_behind true (suc at) 0 cs
    else (if c == hash then placed_behind true (suc at) (comment_len cs) cs
    else record { at = at; lexeme = item_of c }
    ∷ placed_behind (not (c == left_brace)) (suc at) 0 cs)

abbrev pub tokens_from : List ℕ → ℕ → List Placed
tokens_from text from = placed_behind false from 0 (drop from text)

abbrev pub guard_from : List ℕ → ℕ → List Placed
guard_from text from = placed_behind true from 0 (drop from text)

abbrev pub tokens : List ℕ → List Placed
tokens text = placed_behind false 0 0 text

abbrev pub lexemes : List ℕ → List Lexeme
lexemes text = map (λ t. t.lexeme) (tokens text)
