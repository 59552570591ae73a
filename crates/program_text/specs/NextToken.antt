-- What a token that was read says of the text.
--   seen_lexeme x                   a token's lexeme
--   IsLexeme x                      a name is a word that is no keyword, a number is below 2^127, and an item may stand in a guard
--   is_genuine x                    the same as a test
--   IsShaped text at end x          what the lexeme x takes: a word and a number are as long as possible, a sign of two bytes is two, and other tokens are one byte
--   tokens_behind text x end        the tokens behind the lexeme x, which ends at the offset end: none behind the end of the text
--   items_behind text x end         the same in a guard, which { ends
use Rattle.std.specs.Prelude.{◌≡◌, ℕ, ◌+◌, ◌<◌, nat_lt, Bool, true, List, [], length, ⊤, IsTrue}
use Rattle.std.specs.Char.{is_ascii_digit}
use Rattle.program_text.specs.declared.lexemes.Lexeme.{Lexeme}
use Rattle.program_text.specs.declared.lexemes.Lexeme.TheVariants as read
use Rattle.poly_text.specs.Tokens.{IsLongestRun, number_limit}
use Rattle.program_text.specs.Lexemes as lexemes
use Rattle.program_text.specs.Lexemes.{Placed, name, keyword, number, large, sign, double, item, bad, the_end, is_item, tokens_from, guard_from}
use Rattle.program_text.specs.Words.{if_word, while_word, is_word, is_plain_word}
use Rattle.program_text.specs.WordsView.{seen_keyword, seen_double}

abbrev pub seen_lexeme : Lexeme → lexemes.Lexeme
seen_lexeme (read.Name word) = name word.now
seen_lexeme (read.Keyword k) = keyword (seen_keyword k)
seen_lexeme (read.Number value) = number value
seen_lexeme read.Large = large
seen_lexeme (read.Sign byte) = sign byte
seen_lexeme (read.Pair d) = double (seen_double d)
seen_lexeme (read.Item byte) = item byte
seen_lexeme read.Bad = bad
seen_lexeme read.End = the_end

abbrev pub IsLexeme : Lexeme → Type 0
IsLexeme (read.Name word) = IsTrue (is_plain_word word.now)
IsLexeme (read.Number value) = value < number_limit
IsLexeme (read.Item byte) = IsTrue (is_item byte)
IsLexeme x = ⊤

abbrev pub is_genuine : Lexeme → Bool
is_genuine (read.Name word) = is_plain_word word.now
is_genuine (read.Number value) = nat_lt value number_limit
is_genuine (read.Item byte) = is_item byte
is_genuine x = true

abbrev pub IsShaped : List ℕ → ℕ → ℕ → lexemes.Lexeme → Type 0
IsShaped text at end (name w) = IsLongestRun is_word text at end
IsShaped text at end (keyword k) = IsLongestRun is_word text at end
IsShaped text at end (number n) = IsLongestRun is_ascii_digit text at end
IsShaped text at end large = IsLongestRun is_ascii_digit text at end
IsShaped text at end the_end = (at ≡ length text) × (end ≡ length text)
IsShaped text at end (double d) = end ≡ at + 2
IsShaped text at end x = end ≡ at + 1

abbrev pub tokens_behind : List ℕ → lexemes.Lexeme → ℕ → List Placed
tokens_behind text (keyword if_word) end = guard_from text end
tokens_behind text (keyword while_word) end = guard_from text end
tokens_behind text the_end end = []
tokens_behind text x end = tokens_from text end

abbrev pub items_behind : List ℕ → lexemes.Lexeme → ℕ → List Placed
items_behind text (sign c) end = tokens_from text end
items_behind text the_end end = []
items_behind text x end = guard_from text end
