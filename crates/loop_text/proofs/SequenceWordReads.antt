-- Names in a text of sequences.
--   word_goes, word_fails, word_barred     a name that is taken, that is at fault, and another token
--   declared_X                  what a name of a sequence is at fault for
use Rattle.std.proofs.Common.{◌≡◌, ℕ, ◌<◌, ◌≤◌, List, length, refl, ap, ap₂, ◌∙◌, le-leb, Bool, true, false, nat_le, is_some, if◌then◌else◌, Option, Some, None, Ok}
use Rattle.std.proofs.lemmas.Bool.{lt-leb}
use Rattle.loop_model.specs.Names.{place_of}
use Rattle.poly_text.specs.Lexemes.{tokens_from}
use Rattle.poly_text.specs.NextToken.{seen_lexeme}
use Rattle.poly_text.specs.Kinds.{word_in, is_name}
use Rattle.poly_text.specs.Reasons.{Reason, syntax, limit, twice, unless, or_else}
use Rattle.poly_text.specs.CursorView.{rest}
use Rattle.poly_text.specs.declared.cursor.Cursor.{Cursor}
use Rattle.poly_text.proofs.CursorReads.{fault_at, token_read, token_faulty, token_barred, behind_name}
pub use Rattle.poly_text.proofs.CursorReads.{named_here, word_here, no_name_here}
use Rattle.loop_text.specs.Seqs.{SeqContext, SeqState, word, is_seqname, most_seqname, declared_fault, seq_language}
use Rattle.loop_text.specs.SequenceStates.{reading}

module _ (fault : SeqContext → List ℕ → Option Reason) (next : SeqContext → List ℕ → SeqContext)
    (s : SeqState) (c : Cursor) where
  abbrev w : List ℕ
  w = word_in (seen_lexeme c.token.lexeme)

  pub word_goes : is_name (seen_lexeme c.token.lexeme) ≡ true → fault s.context w ≡ None
      → (d : Cursor) → tokens_from c.text.now c.token.end ≡ rest d
      → Ok (record { context = next s.context w; value = s.value }, rest d) ≡ reading
      (word fault next) s (rest c)
  word_goes named free d e =
      token_read seq_language (word fault next) refl s c (seen_lexeme c.token.lexeme) refl named d
      (behind_name c.text.now (seen_lexeme c.token.lexeme) c.token.end named ∙ e) free

  pub word_fails : (why : Reason) → is_name (seen_lexeme c.token.lexeme) ≡ true
      → fault s.context w ≡ Some why
      → fault_at why c.token.at ≡ reading (word fault next) s (rest c)
  word_fails why named faulty =
      token_faulty seq_language (word fault next) refl s c
      (seen_lexeme c.token.lexeme) refl named why faulty

  pub word_barred : is_name (seen_lexeme c.token.lexeme) ≡ false
      → fault_at syntax c.token.at ≡ reading (word fault next) s (rest c)
  word_barred other = token_barred seq_language (word fault next) refl s c other

-- ---- names of sequences
module _ (c : SeqContext) (w : List ℕ) where
  declared_is : (named short known : Bool) → is_seqname w ≡ named → nat_le (length w) 24 ≡ short
      → is_some (place_of c.sequences w) ≡ known
      → declared_fault c w ≡ or_else (unless named syntax)
      (or_else (unless short limit) (if known then Some twice else None))
  unfolding most_seqname
  declared_is named short known e h k =
      ap₂ (λ b d. or_else (unless b syntax)
      (or_else (unless d limit)
      (if is_some (place_of c.sequences w) then Some twice else None))) e h
      ∙ ap (λ b. or_else (unless named syntax)
      (or_else (unless short limit) (if b then Some twice else None))) k

  pub declared_no_name : is_seqname w ≡ false → declared_fault c w ≡ Some syntax
  declared_no_name e = declared_is false (nat_le (length w) 24)
      (is_some (place_of c.sequences w)) e refl refl

  pub declared_long : is_seqname w ≡ true → 24 < length w → declared_fault c w ≡ Some limit
  declared_long e l = declared_is true false (is_some (place_of c.sequences w)) e
      (lt-leb (length w) 24 l) refl

  pub declared_short : is_seqname w ≡ true → length w ≤ 24 → (known : Bool)
      → is_some (place_of c.sequences w) ≡ known
      → declared_fault c w ≡ (if known then Some twice else None)
  declared_short e l known k = declared_is true true known e (le-leb (length w) 24 l) k
