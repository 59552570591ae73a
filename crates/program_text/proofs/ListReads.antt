-- Parts that stand any number of times.
--   each, next_one, last_one   with commas between them: one is due; behind it one more, or what ends them
--   due                        the next one, or what ends them, where the token tells
use Rattle.std.proofs.Common.{◌≡◌, List, [], ◌∷◌, refl, ap, sym, ◌∙◌, Bool, true, false, not, None, Ok, Err}
use Rattle.grammars.specs.Kinds.{has}
use Rattle.grammars.specs.Grammar.{sequence, many, some, separated}
use Rattle.grammars.specs.First.{first, may_be_empty}
use Rattle.program_text.specs.Lexemes.{Placed, tokens_from, is_sign_of}
use Rattle.program_text.specs.NextToken.{seen_lexeme}
use Rattle.program_text.specs.Kinds.{a_sign, same, kind_of}
use Rattle.poly_text.specs.Reasons.{Fault}
use Rattle.program_text.specs.CursorView.{rest, behind}
use Rattle.program_text.specs.declared.cursor.Cursor.{Cursor}
use Rattle.program_text.proofs.KindTests.{no_sign}
use Rattle.program_text.proofs.Paths.{going_on, reading_sequence, reading_more, reading_none, then_on, in_first, in_parts, GoesOn, on, over}
use Rattle.program_text.proofs.CursorReads.{sign_here, here}
use Rattle.program_text.specs.Programs.{ProgramState, Rule, keep, sign, program_language}
use Rattle.program_text.specs.States.{reading}
use Rattle.program_text.proofs.ProgramChecked.{programs_checked}
use Rattle.program_text.proofs.TokenReads.{sign_read}

-- ---- with commas
module _ (g : Rule) where
  abbrev pub comma_list : Rule
  comma_list = separated (sign 44) g

  abbrev pub another : Rule
  another = sequence (sign 44) g

module _ {f g h : Rule} {r s : ProgramState} {os ts : List Placed} (path : GoesOn program_language f
    r os
    (sequence (comma_list g) h) s ts) where
  pub each : GoesOn program_language f r os (sequence g (sequence (many (another g)) h)) s ts
  each = over path (sequence g (sequence (many (another g)) h)) s ts
      (in_parts program_language g (many (another g)) s ts h)

  module _ {t : ProgramState} (c : Cursor) (read : Ok (t, rest c) ≡ reading g s ts) where
    read_one : reading (comma_list g) s ts ≡ reading (many (another g)) t (rest c)
    read_one = then_on program_language g (many (another g)) s ts t (rest c) read

    pub last_one : is_sign_of (seen_lexeme c.token.lexeme) 44 ≡ false
        → GoesOn program_language f r os h t (rest c)
    last_one none =
        on path (sym (read_one ∙ reading_none program_language programs_checked (another g) refl t
        (here c) (behind c) (no_sign 44 (seen_lexeme c.token.lexeme) none)))

    pub next_one : is_sign_of (seen_lexeme c.token.lexeme) 44 ≡ true → (d : Cursor)
        → tokens_from c.text.now c.token.end ≡ rest d
        → GoesOn program_language f r os (sequence (comma_list g) h) t (rest d)
    next_one comma d next =
        let kind = ap (λ x. has same (a_sign 44 ∷ []) (kind_of x)) (sign_here c 44 comma) in
        over path (sequence (comma_list g) h) t (rest d) (in_first program_language (comma_list g) h
        s
        ts (comma_list g) t (rest d)
        (read_one
        ∙ reading_more program_language programs_checked (another g) refl t (here c) (behind c) kind
        ∙ sym (reading_sequence program_language (another g) (many (another g)) t (rest c))
        ∙ in_parts program_language (sign 44) g t (rest c) (many (another g))
        ∙ then_on program_language (sign 44) (comma_list g) t (rest c) t (rest d)
        (sign_read 44 (λ c. None) (λ c. c) keep t c refl comma refl d next)))

-- ---- parts up to another one
module _ (g h : Rule) (full : not (may_be_empty program_language g) ≡ true) (s : ProgramState)
    (x : Placed) (ts : List Placed) where
  abbrev up_to : Rule
  up_to = sequence (many g) h

  pub more_due : has same (first program_language g) (kind_of x.lexeme) ≡ true
      → reading up_to s (x ∷ ts) ≡ reading (sequence (some g) h) s (x ∷ ts)
  more_due e = in_first program_language (many g) h s (x ∷ ts) (some g) s (x ∷ ts)
      (reading_more program_language programs_checked g full s x ts e
      ∙ sym (reading_sequence program_language g (many g) s (x ∷ ts)))

  pub none_due : has same (first program_language g) (kind_of x.lexeme) ≡ false
      → reading up_to s (x ∷ ts) ≡ reading h s (x ∷ ts)
  none_due e = then_on program_language (many g) h s (x ∷ ts) s (x ∷ ts)
      (sym (reading_none program_language programs_checked g full s x ts e))

  -- what can't stand there can't stand in the next part either
  pub due : (f : Fault) → (has same (first program_language g) (kind_of x.lexeme) ≡ false
      → reading g s (x ∷ ts) ≡ Err f) → reading h s (x ∷ ts) ≡ Err f → reading up_to s (x ∷ ts)
      ≡ reading (sequence (some g) h) s (x ∷ ts)
  due f barred ended = go (has same (first program_language g) (kind_of x.lexeme)) refl
    where
      go : (b : Bool) → has same (first program_language g) (kind_of x.lexeme) ≡ b
          → reading up_to s (x ∷ ts) ≡ reading (sequence (some g) h) s (x ∷ ts)
      go true e = more_due e
      go false e =
          none_due e ∙ ended
          ∙ sym (in_parts program_language g (many g) s (x ∷ ts) h
          ∙ reading_sequence program_language g up_to s (x ∷ ts)
          ∙ ap (λ r. going_on r (λ t rest. reading up_to t rest)) (barred e))
