-- What a cursor is seen as.
--   rest c          the tokens from its own on
--   behind c        the tokens behind its own
--   items c         the tokens from its own on, where it stands in a guard
--   bytes_left c          how many bytes are left, with its token's; none at the end
--   begins_by_number c    its token is a number
use Rattle.std.specs.Prelude.{ℕ, suc, ◌-◌, Bool, true, false, List, ◌∷◌, length}
use Rattle.program_text.specs.Lexemes.{Placed}
use Rattle.program_text.specs.NextToken.{seen_lexeme, tokens_behind, items_behind}
use Rattle.program_text.specs.declared.cursor.Cursor.{Cursor}
use Rattle.program_text.specs.declared.lexemes.Lexeme.{Lexeme}
use Rattle.program_text.specs.declared.lexemes.Lexeme.TheVariants as read

abbrev pub behind : Cursor → List Placed
behind c = tokens_behind c.text.now (seen_lexeme c.token.lexeme) c.token.end

abbrev pub rest : Cursor → List Placed
rest c = record { at = c.token.at; lexeme = seen_lexeme c.token.lexeme } ∷ behind c

abbrev pub items : Cursor → List Placed
items c =
    record { at = c.token.at; lexeme = seen_lexeme c.token.lexeme }
    ∷ items_behind c.text.now (seen_lexeme c.token.lexeme) c.token.end

abbrev pub unless_end : Lexeme → ℕ → ℕ
unless_end read.End n = 0
unless_end x n = n

abbrev pub bytes_left : Cursor → ℕ
bytes_left c = unless_end c.token.lexeme (suc (length c.text.now - c.token.end))

abbrev pub is_number : Lexeme → Bool
is_number (read.Number value) = true
is_number read.Large = true
is_number x = false

abbrev pub begins_by_number : Cursor → Bool
begins_by_number c = is_number c.token.lexeme
