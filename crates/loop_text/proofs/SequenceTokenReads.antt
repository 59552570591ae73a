-- One token of a text of sequences.
--   sign_read, sign_barred       a sign is taken, or another token stands there
--   end_read, end_barred         the end of the text;  sign_no_end: what isn't it
use Rattle.std.proofs.Common.{◌≡◌, ℕ, [], ◌∷◌, refl, ap, sym, ◌∙◌, true, false, IsTrue, Ok}
use Rattle.grammars.specs.Kinds.{has}
use Rattle.grammars.specs.Grammar.{after_change}
use Rattle.poly_text.specs.Lexemes as lexemes
use Rattle.poly_text.specs.Lexemes.{Lexeme, tokens_from, is_sign_of, is_end_of}
use Rattle.poly_text.specs.NextToken.{seen_lexeme, tokens_behind}
use Rattle.poly_text.specs.Kinds.{an_end, a_sign, same, kind_of}
use Rattle.poly_text.specs.Reasons.{syntax}
use Rattle.poly_text.specs.Tokens.{is_sign}
use Rattle.poly_text.specs.CursorView.{rest, behind}
use Rattle.poly_text.specs.declared.lexemes.Lexeme as code
use Rattle.poly_text.specs.declared.lexemes.Lexeme.TheVariants as code_lexeme
use Rattle.poly_text.specs.declared.cursor.Cursor.{Cursor}
use Rattle.poly_text.proofs.KindTests.{by_shape, no_sign, a_sign_kind, end_is, no_end}
pub use Rattle.poly_text.proofs.KindTests.{sign_no_end}
use Rattle.poly_text.proofs.CursorReads.{fault_at, here, taken, token_read, token_barred, sign_here}
use Rattle.loop_text.specs.Seqs.{SeqContext, SeqValue, SeqState, Rule, token_of, the_end, seq_language}
use Rattle.loop_text.specs.SequenceStates.{reading}

module _ (b : ℕ) (next : SeqContext → SeqContext) (build : SeqContext → SeqValue → SeqValue)
    (s : SeqState) (c : Cursor) where
  abbrev the_sign : Rule
  the_sign = token_of (a_sign b) next build

  pub sign_read : IsTrue (is_sign b) → is_sign_of (seen_lexeme c.token.lexeme) b ≡ true
      → (d : Cursor) → tokens_from c.text.now c.token.end ≡ rest d
      → Ok (after_change next build s, rest d) ≡ reading the_sign s (rest c)
  sign_read known is d e =
      token_read seq_language the_sign refl s c (lexemes.sign b) (sign_here c b is)
      (a_sign_kind b known) d e refl

  pub sign_barred : is_sign_of (seen_lexeme c.token.lexeme) b ≡ false
      → fault_at syntax c.token.at ≡ reading the_sign s (rest c)
  sign_barred other = token_barred seq_language the_sign refl s c
      (no_sign b (seen_lexeme c.token.lexeme) other)

-- ---- the end
pub end_read : (s : SeqState) (c : Cursor) → is_end_of (seen_lexeme c.token.lexeme) ≡ true
    → Ok (s, []) ≡ reading the_end s (rest c)
end_read s c e =
    let ended = end_is (seen_lexeme c.token.lexeme) e in
    ap (λ ts. Ok (s, ts)) (sym (ap (λ x. tokens_behind c.text.now x c.token.end) ended))
    ∙ taken seq_language the_end s (here c) (behind c) refl
    (ap (λ x. has same (an_end ∷ []) (kind_of x)) ended) refl

pub end_barred : (s : SeqState) (c : Cursor) → is_end_of (seen_lexeme c.token.lexeme) ≡ false
    → fault_at syntax c.token.at ≡ reading the_end s (rest c)
end_barred s c e = token_barred seq_language the_end refl s c
    (by_shape (an_end ∷ []) (seen_lexeme c.token.lexeme) refl
    (no_end (seen_lexeme c.token.lexeme) e))

pub not_end : (l : code.Lexeme) → (l ≡ code_lexeme.End → ⊥) → is_end_of (seen_lexeme l) ≡ false
not_end code_lexeme.End other = absurd (other refl)
not_end l other = refl
