-- What a part of a guard says.
--   said_whole, said_end, said_more, said_fault      by what its comparison reads as: all of it, with more behind it, or none
use Rattle.std.proofs.Common.{◌≡◌, ℕ, List, [], ◌∷◌, take, refl, ap, sym, subst, ◌∙◌, false, Option, Some, None, Ok, Err, is_none, option_map}
use Rattle.std.specs.Prelude.{IfSome}
use Rattle.loops.specs.Program.{Expr}
use Rattle.grammars.specs.Grammar.{sequence}
use Rattle.poly_text.specs.Reasons.{Fault}
use Rattle.program_model.specs.Program.{Comparison}
use Rattle.program_text.specs.Faults.{fault_of}
use Rattle.program_text.specs.Lexemes as lexemes
use Rattle.program_text.specs.Lexemes.{tokens_from}
use Rattle.program_text.specs.Kinds.{an_end}
use Rattle.program_text.specs.NextToken.{seen_lexeme, tokens_behind}
use Rattle.program_text.specs.CursorView.{rest}
use Rattle.program_text.specs.Guards.{said, said_by}
use Rattle.program_text.specs.Sums.{SumContext, SumValue, sum_language, comparison, all_signs, the_end, start, no_value}
use Rattle.program_text.specs.States.{plain_state, with_sides}
use Rattle.program_text.specs.Telling.{reading}
use Rattle.program_text.specs.Told.{Told}
use Rattle.program_text.specs.declared.cursor.Cursor.{Cursor}
use Rattle.program_text.specs.declared.error.ProgramTextError.{ProgramTextError}
use Rattle.program_text.specs.declared.lexemes.Lexeme.TheVariants as code_lexeme
use Rattle.program_text.proofs.KindTests.{unlike}
use Rattle.program_text.proofs.CursorReads.{taken, token_barred}
use Rattle.program_text.proofs.Paths.{then_on, IsFault, stopped}
use Rattle.program_text.proofs.WholeTexts.{whole_told, whole_reading}

module _ (names : List (List ℕ)) (text : List ℕ) (p : ℕ × ℕ) (c : Cursor)
    (is : rest c ≡ tokens_from (take p.1 text) p.0) where
  abbrev Rest : Told SumContext SumValue
  Rest = reading sum_language (sequence (comparison all_signs) the_end) (start names) (rest c)

  said_whole : said names text p ≡ said_by (whole_told Rest)
  unfolding said
  said_whole =
      ap said_by (whole_reading sum_language (comparison all_signs) the_end (start names)
      (tokens_from (take p.1 text) p.0)
      ∙ ap (λ ts. whole_told (reading sum_language (sequence (comparison all_signs) the_end)
      (start names) ts)) (sym is))

  module _ (k : Comparison (Expr ℕ)) (end : Cursor)
      (read : Ok (plain_state names (with_sides k no_value), rest end)
      ≡ reading sum_language (comparison all_signs) (start names) (rest c)) where
    behind_it : Rest ≡ reading sum_language the_end (plain_state names (with_sides k no_value))
        (rest end)
    behind_it = then_on sum_language (comparison all_signs) the_end (start names) (rest c)
        (plain_state names (with_sides k no_value)) (rest end) read

    pub said_end : end.token.lexeme ≡ code_lexeme.End → Some k ≡ said names text p
    said_end e =
        let t = plain_state names (with_sides k no_value) in
        let ended : Ok (t, []) ≡ reading sum_language the_end t (rest end) =
        subst (λ l. Ok (t, []) ≡ reading sum_language the_end t (record {
          at = end.token.at;
          lexeme = seen_lexeme l;
        } ∷ tokens_behind end.text.now (seen_lexeme l) end.token.end)) (sym e)
        (taken sum_language the_end t (record { at = end.token.at; lexeme = lexemes.the_end }) []
        refl refl refl) in
        sym (said_whole ∙ ap (λ r. said_by (whole_told r)) (behind_it ∙ sym ended))

    pub said_more : (end.token.lexeme ≡ code_lexeme.End → ⊥) → None ≡ said names text p
    said_more other =
        sym (said_whole ∙ ap (λ r. said_by (whole_told r)) (behind_it ∙ sym
        (token_barred sum_language the_end refl (plain_state names (with_sides k no_value)) end
        (unlike (an_end ∷ []) end.token.lexeme refl (other, tt)))))

  pub said_fault : (e : ProgramTextError) → is_none (fault_of e) ≡ false
      → IsFault e (reading sum_language (comparison all_signs) (start names) (rest c))
      → None ≡ said names text p
  said_fault e some h =
      go (fault_of e) some (stopped sum_language (comparison all_signs) the_end (start names)
      (rest c) e h)
    where
      go : (o : Option Fault) → is_none o ≡ false
          → IfSome (option_map Err o) (λ (r : Told SumContext SumValue). r ≡ Rest)
          → None ≡ said names text p
      go None some h = absurd (cc)
      go (Some f) some h = sym (said_whole ∙ ap (λ r. said_by (whole_told r)) (sym h))
