-- What stands at the head of a statement with a block, and behind `else`.
--   opened                   behind a keyword that a guard follows; opened_bare: behind another one
--   head_fault               one statement too many
--   else_bare, else_there    no `else`, and one;  else_if_there, else_block: `if` behind it, and a block
use Rattle.std.proofs.Common.{◌≡◌, ℕ, suc, List, [], ◌∷◌, refl, ap, sym, subst, ◌∙◌, Bool, true, false, Option, None, Some, Ok}
use Rattle.grammars.specs.Kinds.{has}
use Rattle.grammars.specs.Grammar.{sequence, either, change, rule}
use Rattle.poly_text.specs.Reasons.{Reason, syntax, or_else}
use Rattle.program_text.specs.Words.{Keyword, else_word, if_word}
use Rattle.program_text.specs.Lexemes as lexemes
use Rattle.program_text.specs.Lexemes.{Placed, tokens_from, is_sign_of}
use Rattle.program_text.specs.NextToken.{seen_lexeme, tokens_behind}
use Rattle.program_text.specs.Kinds.{a_sign, same, kind_of}
use Rattle.program_text.specs.CursorView.{rest, behind}
use Rattle.program_text.specs.declared.cursor.Cursor.{Cursor}
use Rattle.program_text.specs.Programs.{ProgramState, ProgramValue, Rule, statement_fault, begin_statement, head_word, keep, block, block_opening, block_fault, open_block, with_empty, statements, else_way, else_if, other_way, an_if, if_statement, guard, other_way, with_choice, program_language}
use Rattle.program_text.specs.States.{reading, at_statement, with_place, statement_limit, is_keyword_of}
use Rattle.program_text.proofs.KindTests.{no_sign}
use Rattle.program_text.proofs.Paths.{GoesOn, start, on, over, reading_change, reading_rule, then_on}
use Rattle.program_text.proofs.CursorReads.{sign_here, fault_at, here, token_barred, no_first, at_left, at_right}
use Rattle.program_text.proofs.ProgramChecked.{programs_checked}
use Rattle.program_text.proofs.TokenReads.{keyword_is, keyword_kind, no_keyword_kind, keyword_read, noted_read, sign_barred}

module _ (w : Keyword) (h : Rule) (names : List (List ℕ)) (n m d : ℕ) (v : ProgramValue)
    (k : Cursor) (is : is_keyword_of (seen_lexeme k.token.lexeme) w ≡ true)
    (free : statement_limit n ≡ None) (more : m ≡ suc n) where
  by_tokens : (us : List Placed) → tokens_behind k.text.now (lexemes.keyword w) k.token.end ≡ us
      → GoesOn program_language (sequence (head_word w) h) (at_statement names n d v) (rest k) h
      (at_statement names m d (with_place k.token.at v)) us
  by_tokens us e =
      subst (λ m. GoesOn program_language (sequence (head_word w) h) (at_statement names n d v)
      (rest k) h (at_statement names m d (with_place k.token.at v)) us) (sym more)
      (on (start program_language _ _ _) (noted_read w statement_fault begin_statement
      (at_statement names n d v) k is free us e))

  pub opened : GoesOn program_language (sequence (head_word w) h) (at_statement names n d v)
      (rest k)
      h (at_statement names m d (with_place k.token.at v)) (behind k)
  opened = by_tokens (behind k) (sym (ap (λ x. tokens_behind k.text.now x k.token.end)
      (keyword_is (seen_lexeme k.token.lexeme) w is)))

  pub opened_bare : (next : Cursor) → tokens_behind k.text.now (lexemes.keyword w) k.token.end
      ≡ rest next → GoesOn program_language (sequence (head_word w) h) (at_statement names n d v)
      (rest k) h (at_statement names m d (with_place k.token.at v)) (rest next)
  opened_bare next e = by_tokens (rest next) e

pub or_none : (o : Option Reason) → o ≡ or_else o None
or_none None = refl
or_none (Some why) = refl

-- ---- else
module _ (s : ProgramState) (c : Cursor) where
  pub else_bare : is_keyword_of (seen_lexeme c.token.lexeme) else_word ≡ false
      → Ok (record { context = s.context; value = with_empty s.context s.value }, rest c)
      ≡ reading other_way s (rest c)
  else_bare other =
      sym (at_right program_language else_way (change (λ c. c) with_empty) s c
      (no_keyword_kind else_word (seen_lexeme c.token.lexeme) other)
      ∙ reading_change program_language (λ c. c) with_empty s (here c) (behind c))

  pub else_there : is_keyword_of (seen_lexeme c.token.lexeme) else_word ≡ true → (d : Cursor)
      → tokens_from c.text.now c.token.end ≡ rest d
      → GoesOn program_language other_way s (rest c) (either block else_if) s (rest d)
  else_there is d e =
      on (over (start program_language other_way s (rest c)) else_way s (rest c)
      (at_left program_language else_way (change (λ c. c) with_empty) s c
      (keyword_kind else_word (seen_lexeme c.token.lexeme) is)))
      (keyword_read else_word c (λ c. None) (λ c. c) keep s is refl (rest d) e)

  abbrev in_empty : ProgramState
  in_empty = record { context = s.context; value = with_empty s.context s.value }

  as_if : reading else_if s (rest c) ≡ reading if_statement in_empty (rest c)
  as_if =
      then_on program_language (change (λ c. c) with_empty) (rule an_if) s (rest c) in_empty
      (rest c)
      (sym (reading_change program_language (λ c. c) with_empty s (here c) (behind c)))
      ∙ reading_rule program_language programs_checked an_if in_empty (rest c)

  pub else_if_there : is_keyword_of (seen_lexeme c.token.lexeme) if_word ≡ true
      → reading (either block else_if) s (rest c) ≡ reading if_statement in_empty (rest c)
  else_if_there is =
      at_right program_language block else_if s c
      (ap (λ x. has same (a_sign 123 ∷ []) (kind_of x))
      (keyword_is (seen_lexeme c.token.lexeme) if_word is)) ∙ as_if

  block_barred : is_sign_of (seen_lexeme c.token.lexeme) 123 ≡ false
      → fault_at syntax c.token.at ≡ reading block s (rest c)
  block_barred other = no_first program_language block_opening statements s (rest c) _
      (sign_barred 123 block_fault open_block with_empty s c other)

  pub else_block : is_keyword_of (seen_lexeme c.token.lexeme) if_word ≡ false
      → reading (either block else_if) s (rest c) ≡ reading block s (rest c)
  else_block no_if = go (is_sign_of (seen_lexeme c.token.lexeme) 123) refl
    where
      go : (b : Bool) → is_sign_of (seen_lexeme c.token.lexeme) 123 ≡ b
          → reading (either block else_if) s (rest c) ≡ reading block s (rest c)
      go true e = at_left program_language block else_if s c
          (ap (λ x. has same (a_sign 123 ∷ []) (kind_of x)) (sign_here c 123 e))
      go false e =
          at_right program_language block else_if s c (no_sign 123 (seen_lexeme c.token.lexeme) e)
          ∙ as_if
          ∙ sym (no_first program_language (head_word if_word) (sequence guard (sequence statements
          (sequence other_way (change (λ c. c) with_choice)))) in_empty (rest c) _
          (token_barred program_language (head_word if_word) refl in_empty c
          (no_keyword_kind if_word (seen_lexeme c.token.lexeme) no_if)))
          ∙ block_barred e
