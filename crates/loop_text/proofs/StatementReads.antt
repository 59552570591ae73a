-- Which statement a token begins.
--   list_here, no_list_here     one with a list of targets, and one with one target
--   statement_due               the next statement of a branch; statements_end: the } behind them
use Rattle.std.proofs.Common.{◌≡◌, [], ◌∷◌, refl, ap, sym, ◌∙◌, Bool, true, false, None}
use Rattle.std.proofs.lemmas.Bool.{or_parts, or_from}
use Rattle.grammars.specs.Kinds.{has}
use Rattle.grammars.specs.Grammar.{sequence, many}
use Rattle.poly_text.specs.Lexemes.{is_sign_of}
use Rattle.poly_text.specs.NextToken.{seen_lexeme}
use Rattle.poly_text.specs.Kinds.{a_name, a_sign, same, kind_of, is_name}
use Rattle.poly_text.specs.Reasons.{syntax}
use Rattle.poly_text.specs.CursorView.{rest, behind}
use Rattle.poly_text.specs.declared.cursor.Cursor.{Cursor}
use Rattle.poly_text.proofs.KindTests.{no_sign}
use Rattle.poly_text.proofs.Paths.{in_parts}
use Rattle.poly_text.proofs.CursorReads.{sign_here, fault_at, here, token_barred, no_first, at_left, at_right}
use Rattle.loop_text.specs.Loops.{LoopState, end_branch, with_branch, only_target, single, several, list_opening, targets, values, statement_end, sign, right_side, statement, statements, branch_end, loop_language}
use Rattle.loop_text.specs.States.{reading}
use Rattle.loop_text.proofs.ListReads.{due, none_due}
use Rattle.loop_text.proofs.TokenReads.{sign_barred}

module _ (s : LoopState) (c : Cursor) where
  several_barred : has same (a_sign 40 ∷ []) (kind_of (seen_lexeme c.token.lexeme)) ≡ false
      → fault_at syntax c.token.at ≡ reading several s (rest c)
  several_barred other = no_first loop_language list_opening
      (sequence targets (sequence values statement_end)) s (rest c) (record {
        reason = syntax;
        at = c.token.at;
      }) (token_barred loop_language list_opening refl s c other)

  single_barred : is_name (seen_lexeme c.token.lexeme) ≡ false → fault_at syntax c.token.at
      ≡ reading single s (rest c)
  single_barred other =
      no_first loop_language only_target (sequence (sign 61) (sequence right_side statement_end)) s
      (rest c) (record { reason = syntax; at = c.token.at })
      (token_barred loop_language only_target refl s c other)

  pub list_here : is_sign_of (seen_lexeme c.token.lexeme) 40 ≡ true → reading statement s (rest c)
      ≡ reading several s (rest c)
  list_here is = at_right loop_language single several s c
      (ap (λ x. has same (a_name ∷ []) (kind_of x)) (sign_here c 40 is))

  pub no_list_here : is_sign_of (seen_lexeme c.token.lexeme) 40 ≡ false
      → reading statement s (rest c) ≡ reading single s (rest c)
  no_list_here other = go (is_name (seen_lexeme c.token.lexeme)) refl
    where
      go : (b : Bool) → is_name (seen_lexeme c.token.lexeme) ≡ b → reading statement s (rest c)
          ≡ reading single s (rest c)
      go true e = at_left loop_language single several s c e
      go false e = at_right loop_language single several s c e
          ∙ sym (several_barred (no_sign 40 (seen_lexeme c.token.lexeme) other)) ∙ single_barred e

  -- ---- the statements of a branch
  pub statement_due : is_sign_of (seen_lexeme c.token.lexeme) 125 ≡ false
      → reading statements s (rest c) ≡ reading (sequence statement statements) s (rest c)
  statement_due other =
      due statement branch_end refl s (here c) (behind c) (record {
        reason = syntax;
        at = c.token.at;
      })
      (λ e. let both = or_parts (same a_name (kind_of (seen_lexeme c.token.lexeme)))
      (has same (a_sign 40 ∷ []) (kind_of (seen_lexeme c.token.lexeme))) e in
      at_right loop_language single several s c
      (or_from (same a_name (kind_of (seen_lexeme c.token.lexeme))) false both.0 refl)
      ∙ sym (several_barred both.1))
      (sym (sign_barred 125 (λ c. None) end_branch with_branch s c other))
      ∙ in_parts loop_language statement (many statement) s (rest c) branch_end

  pub statements_end : is_sign_of (seen_lexeme c.token.lexeme) 125 ≡ true
      → reading statements s (rest c) ≡ reading branch_end s (rest c)
  statements_end is = none_due statement branch_end refl s (here c) (behind c)
      (ap (λ x. has same (a_name ∷ a_sign 40 ∷ []) (kind_of x)) (sign_here c 125 is))
