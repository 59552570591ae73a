-- What the function that reads the text of a guard says.
--   with_text text s         the state s with this text of the open guard
--   ReadsText c result       behind the keyword at the cursor c these bytes are the guard, and the { behind them is due; or a token can't stand there
use Rattle.std.specs.Prelude.{◌≡◌, ℕ, List, [], true, Result, Ok, Err, IfSome, option_map}
use Rattle.program_text.specs.CursorView.{rest, behind}
use Rattle.program_text.specs.Faults.{fault_of}
use Rattle.program_text.specs.Lexemes.{is_sign_of}
use Rattle.program_text.specs.NextToken.{seen_lexeme}
use Rattle.program_text.specs.Programs.{ProgramState, guard, guard_end}
use Rattle.program_text.specs.States.{reading}
use Rattle.program_text.specs.declared.error.ProgramTextError.{ProgramTextError}
use Rattle.program_text.specs.declared.cursor.Cursor.{Cursor}
use Rattle.std.specs.Global.{Vec}

abbrev pub with_text : List ℕ → ProgramState → ProgramState
with_text text s = record s { value = record s.value { guard = text } }

abbrev pub ReadsText : Cursor → Result (Vec ℕ × Cursor) ProgramTextError → Type 0
ReadsText c (Ok r) =
    (is_sign_of (seen_lexeme r.1.token.lexeme) 123 ≡ true)
    × ((s : ProgramState) → reading guard (with_text [] s) (behind c)
    ≡ reading guard_end (with_text r.0.items s) (rest r.1))
ReadsText c (Err e) =
    (s : ProgramState) → IfSome (option_map Err (fault_of e)) (λ told.
    told ≡ reading guard (with_text [] s) (behind c))
