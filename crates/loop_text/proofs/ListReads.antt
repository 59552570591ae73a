-- Parts that stand any number of times.
--   each, next_one, last_one   with commas between them: one is due; behind it one more, or what ends them
--   due                        the next one, or what ends them, where the token tells
use Rattle.std.proofs.Common.{◌≡◌, List, [], ◌∷◌, refl, ap, sym, ◌∙◌, Bool, true, false, not, None, Ok, Err}
use Rattle.grammars.specs.Kinds.{has}
use Rattle.grammars.specs.Grammar.{sequence, many, some, separated}
use Rattle.grammars.specs.First.{first, may_be_empty}
use Rattle.poly_text.specs.Lexemes.{Placed, tokens_from, is_sign_of}
use Rattle.poly_text.specs.NextToken.{seen_lexeme}
use Rattle.poly_text.specs.Kinds.{a_sign, same, kind_of}
use Rattle.poly_text.specs.Reasons.{Fault}
use Rattle.poly_text.specs.CursorView.{rest, behind}
use Rattle.poly_text.specs.declared.cursor.Cursor.{Cursor}
use Rattle.poly_text.proofs.KindTests.{no_sign}
use Rattle.poly_text.proofs.Paths.{going_on, reading_sequence, reading_more, reading_none, then_on, in_first, in_parts, GoesOn, on, over}
use Rattle.poly_text.proofs.CursorReads.{sign_here, here}
use Rattle.loop_text.specs.Loops.{LoopState, Rule, keep, sign, loop_language}
use Rattle.loop_text.specs.States.{reading}
use Rattle.loop_text.proofs.LoopChecked.{loops_checked}
use Rattle.loop_text.proofs.TokenReads.{sign_read}

-- ---- with commas
module _ (g : Rule) where
  abbrev pub comma_list : Rule
  comma_list = separated (sign 44) g

  abbrev pub another : Rule
  another = sequence (sign 44) g

module _ {f g h : Rule} {r s : LoopState} {os ts : List Placed} (path : GoesOn loop_language f r os
    (sequence (comma_list g) h) s ts) where
  pub each : GoesOn loop_language f r os (sequence g (sequence (many (another g)) h)) s ts
  each = over path (sequence g (sequence (many (another g)) h)) s ts
      (in_parts loop_language g (many (another g)) s ts h)

  module _ {t : LoopState} (c : Cursor) (read : Ok (t, rest c) ≡ reading g s ts) where
    read_one : reading (comma_list g) s ts ≡ reading (many (another g)) t (rest c)
    read_one = then_on loop_language g (many (another g)) s ts t (rest c) read

    pub last_one : is_sign_of (seen_lexeme c.token.lexeme) 44 ≡ false
        → GoesOn loop_language f r os h t (rest c)
    last_one none =
        on path (sym (read_one ∙ reading_none loop_language loops_checked (another g) refl t
        (here c) (behind c) (no_sign 44 (seen_lexeme c.token.lexeme) none)))

    pub next_one : is_sign_of (seen_lexeme c.token.lexeme) 44 ≡ true → (d : Cursor)
        → tokens_from c.text.now c.token.end ≡ rest d
        → GoesOn loop_language f r os (sequence (comma_list g) h) t (rest d)
    next_one comma d next =
        let kind = ap (λ x. has same (a_sign 44 ∷ []) (kind_of x)) (sign_here c 44 comma) in
        over path (sequence (comma_list g) h) t (rest d) (in_first loop_language (comma_list g) h s
        ts (comma_list g) t (rest d)
        (read_one
        ∙ reading_more loop_language loops_checked (another g) refl t (here c) (behind c) kind
        ∙ sym (reading_sequence loop_language (another g) (many (another g)) t (rest c))
        ∙ in_parts loop_language (sign 44) g t (rest c) (many (another g))
        ∙ then_on loop_language (sign 44) (comma_list g) t (rest c) t (rest d)
        (sign_read 44 (λ c. None) (λ c. c) keep t c refl comma refl d next)))

-- ---- parts up to another one
module _ (g h : Rule) (full : not (may_be_empty loop_language g) ≡ true) (s : LoopState)
    (x : Placed) (ts : List Placed) where
  abbrev up_to : Rule
  up_to = sequence (many g) h

  pub more_due : has same (first loop_language g) (kind_of x.lexeme) ≡ true
      → reading up_to s (x ∷ ts) ≡ reading (sequence (some g) h) s (x ∷ ts)
  more_due e = in_first loop_language (many g) h s (x ∷ ts) (some g) s (x ∷ ts)
      (reading_more loop_language loops_checked g full s x ts e
      ∙ sym (reading_sequence loop_language g (many g) s (x ∷ ts)))

  pub none_due : has same (first loop_language g) (kind_of x.lexeme) ≡ false
      → reading up_to s (x ∷ ts) ≡ reading h s (x ∷ ts)
  none_due e = then_on loop_language (many g) h s (x ∷ ts) s (x ∷ ts)
      (sym (reading_none loop_language loops_checked g full s x ts e))

  -- what can't stand there can't stand in the next part either
  pub due : (f : Fault) → (has same (first loop_language g) (kind_of x.lexeme) ≡ false
      → reading g s (x ∷ ts) ≡ Err f) → reading h s (x ∷ ts) ≡ Err f → reading up_to s (x ∷ ts)
      ≡ reading (sequence (some g) h) s (x ∷ ts)
  due f barred ended = go (has same (first loop_language g) (kind_of x.lexeme)) refl
    where
      go : (b : Bool) → has same (first loop_language g) (kind_of x.lexeme) ≡ b
          → reading up_to s (x ∷ ts) ≡ reading (sequence (some g) h) s (x ∷ ts)
      go true e = more_due e
      go false e =
          none_due e ∙ ended
          ∙ sym (in_parts loop_language g (many g) s (x ∷ ts) h
          ∙ reading_sequence loop_language g up_to s (x ∷ ts)
          ∙ ap (λ r. going_on r (λ t rest. reading up_to t rest)) (barred e))
