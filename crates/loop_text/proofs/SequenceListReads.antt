-- Parts that stand any number of times.
--   each, next_one, last_one   with commas between them: one is due; behind it one more, or what ends them
use Rattle.std.proofs.Common.{◌≡◌, List, [], ◌∷◌, refl, ap, sym, ◌∙◌, true, false, Ok}
use Rattle.grammars.specs.Kinds.{has}
use Rattle.grammars.specs.Grammar.{sequence, many, separated}
use Rattle.poly_text.specs.Lexemes.{Placed, tokens_from, is_sign_of}
use Rattle.poly_text.specs.NextToken.{seen_lexeme}
use Rattle.poly_text.specs.Kinds.{a_sign, same, kind_of}
use Rattle.poly_text.specs.CursorView.{rest, behind}
use Rattle.poly_text.specs.declared.cursor.Cursor.{Cursor}
use Rattle.poly_text.proofs.KindTests.{no_sign}
use Rattle.poly_text.proofs.Paths.{reading_sequence, reading_more, reading_none, then_on, in_first, in_parts, GoesOn, on, over}
use Rattle.poly_text.proofs.CursorReads.{sign_here, here}
use Rattle.loop_text.specs.Seqs.{SeqState, Rule, keep, sign, seq_language}
use Rattle.loop_text.specs.SequenceStates.{reading}
use Rattle.loop_text.proofs.SeqChecked.{seqs_checked}
use Rattle.loop_text.proofs.SequenceTokenReads.{sign_read}

-- ---- with commas
module _ (g : Rule) where
  abbrev pub comma_list : Rule
  comma_list = separated (sign 44) g

  abbrev pub another : Rule
  another = sequence (sign 44) g

module _ {f g h : Rule} {r s : SeqState} {os ts : List Placed}
    (path : GoesOn seq_language f r os (sequence (comma_list g) h) s ts) where
  pub each : GoesOn seq_language f r os (sequence g (sequence (many (another g)) h)) s ts
  each = over path (sequence g (sequence (many (another g)) h)) s ts
      (in_parts seq_language g (many (another g)) s ts h)

  module _ {t : SeqState} (c : Cursor) (read : Ok (t, rest c) ≡ reading g s ts) where
    read_one : reading (comma_list g) s ts ≡ reading (many (another g)) t (rest c)
    read_one = then_on seq_language g (many (another g)) s ts t (rest c) read

    pub last_one : is_sign_of (seen_lexeme c.token.lexeme) 44 ≡ false
        → GoesOn seq_language f r os h t (rest c)
    last_one none = on path
        (sym (read_one ∙ reading_none seq_language seqs_checked (another g) refl t (here c)
        (behind c) (no_sign 44 (seen_lexeme c.token.lexeme) none)))

    pub next_one : is_sign_of (seen_lexeme c.token.lexeme) 44 ≡ true → (d : Cursor)
        → tokens_from c.text.now c.token.end ≡ rest d
        → GoesOn seq_language f r os (sequence (comma_list g) h) t (rest d)
    next_one comma d next =
        let kind = ap (λ x. has same (a_sign 44 ∷ []) (kind_of x)) (sign_here c 44 comma) in
        over path (sequence (comma_list g) h) t (rest d)
        (in_first seq_language (comma_list g) h s ts (comma_list g) t (rest d)
        (read_one
        ∙ reading_more seq_language seqs_checked (another g) refl t (here c) (behind c) kind
        ∙ sym (reading_sequence seq_language (another g) (many (another g)) t (rest c))
        ∙ in_parts seq_language (sign 44) g t (rest c) (many (another g))
        ∙ then_on seq_language (sign 44) (comma_list g) t (rest c) t (rest d)
        (sign_read 44 (λ c. c) keep t c refl comma d next)))
