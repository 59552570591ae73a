-- What is read up to the end of the text.
--   whole_read      so it is, where all is read
--   whole_fails     an error at a first part; whole_fails_last: at the last part
--   text_begins     the names, and the statements behind them
--   text_due, text_ends     one statement more, and the end
use Rattle.std.proofs.Common.{◌≡◌, ℕ, List, [], refl, ap, sym, subst, ◌∙◌, false, true, Result, Ok, Err}
use Rattle.std.specs.Prelude.{IfSome}
use Rattle.grammars.specs.Kinds.{has}
use Rattle.grammars.specs.Grammar.{sequence, many, rule}
use Rattle.loops.specs.Program.{Expr}
use Rattle.poly_text.specs.Reasons.{Fault, syntax}
use Rattle.program_model.specs.Program.{Program}
use Rattle.program_text.specs.Faults.{fault_of}
use Rattle.program_text.specs.Kinds.{same, kind_of}
use Rattle.program_text.specs.Lexemes.{Placed, tokens, is_end_of}
use Rattle.program_text.specs.NextToken.{seen_lexeme}
use Rattle.program_text.specs.CursorView.{rest, behind}
use Rattle.program_text.specs.ProgramReader.{program_in, program_or_fault, text_of, told_program}
use Rattle.program_text.specs.Programs.{ProgramState, Rule, names, a_statement, begins_statement, program, the_end, nothing, program_language}
use Rattle.program_text.specs.States.{reading}
use Rattle.program_text.specs.declared.cursor.Cursor.{Cursor}
use Rattle.program_text.specs.declared.error.ProgramTextError.{ProgramTextError}
use Rattle.program_model.specs.declared.program.Program as code
use Rattle.poly_text.proofs.Paths.{fault_passes}
use Rattle.program_text.proofs.Paths.{IsFault, stopped, GoesOn, GivesError, in_parts}
use Rattle.program_text.proofs.CursorReads.{here}
use Rattle.program_text.proofs.ListReads.{due, none_due}
use Rattle.program_text.proofs.TokenReads.{end_is, end_barred}
use Rattle.program_text.proofs.Ways.{statement_barred}
use Rattle.program_text.proofs.WholeTexts.{whole_told, whole_reading}

abbrev pub whole : Rule
whole = sequence program the_end

module _ (bytes : List ℕ) where
  whole_is : text_of bytes ≡ program_or_fault bytes (whole_told (reading whole nothing (tokens
      bytes)))
  whole_is = ap (program_or_fault bytes) (whole_reading program_language program the_end nothing
      (tokens bytes))

  pub whole_read : (t : ProgramState) → Ok (t, []) ≡ reading whole nothing (tokens bytes)
      → Ok (program_in bytes t) ≡ text_of bytes
  whole_read t e = ap (λ r. program_or_fault bytes (whole_told r)) e ∙ sym whole_is

  module _ {e : ProgramTextError} {result : Result code.Program ProgramTextError} where
    pub whole_fails_last : {h : Rule} {t : ProgramState} {us : List Placed}
        → GoesOn program_language whole nothing (tokens bytes) h t us → GivesError result e
        → IsFault e (reading h t us) → IfSome (told_program result) (λ r. r ≡ text_of bytes)
    whole_fails_last {h} {t} {us} path is p =
        subst (λ r. IfSome (told_program r) (λ (x : Result (Program (Expr ℕ)) Fault). x ≡ text_of
        bytes)) (sym (is.1 ∙ ap Err is.2))
        (fault_passes (fault_of e) (reading whole nothing (tokens bytes)) (text_of bytes) (λ f h.
        ap (λ r. program_or_fault bytes (whole_told r)) h ∙ sym whole_is)
        (subst (IsFault e) (sym path.same) p))

    pub whole_fails : {f h : Rule} {t : ProgramState} {us : List Placed}
        → GoesOn program_language whole nothing (tokens bytes) (sequence f h) t us
        → GivesError result e → IsFault e (reading f t us)
        → IfSome (told_program result) (λ r. r ≡ text_of bytes)
    whole_fails {f} {h} {t} {us} path is p =
        whole_fails_last path is (stopped program_language f h t us e p)

  pub text_begins : (k : Cursor) → rest k ≡ tokens bytes
      → GoesOn program_language whole nothing (tokens bytes)
      (sequence names (sequence (many (rule a_statement)) the_end)) nothing (rest k)
  text_begins k all = record {
    same = in_parts program_language names (many (rule a_statement)) nothing (tokens bytes) the_end
        ∙ ap (reading (sequence names (sequence (many (rule a_statement)) the_end)) nothing)
        (sym all);
  }

module _ (s : ProgramState) (c : Cursor) where
  pub text_due : is_end_of (seen_lexeme c.token.lexeme) ≡ false
      → reading (sequence (many (rule a_statement)) the_end) s (rest c)
      ≡ reading (sequence (rule a_statement) (sequence (many (rule a_statement)) the_end)) s
      (rest c)
  text_due other =
      due (rule a_statement) the_end refl s (here c) (behind c) (record {
        reason = syntax;
        at = c.token.at;
      }) (λ e. sym (statement_barred s c e)) (sym (end_barred s c other))
      ∙ in_parts program_language (rule a_statement) (many (rule a_statement)) s (rest c) the_end

  pub text_ends : is_end_of (seen_lexeme c.token.lexeme) ≡ true
      → reading (sequence (many (rule a_statement)) the_end) s (rest c)
      ≡ reading the_end s (rest c)
  text_ends is = none_due (rule a_statement) the_end refl s (here c) (behind c)
      (ap (λ x. has same begins_statement (kind_of x)) (end_is (seen_lexeme c.token.lexeme) is))
