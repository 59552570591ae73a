-- Faults of sums, as they are told in a text of sequences.
--   told_so                a fault at an offset, told with another reason;  told_same: with its own
--   values_X, nexts_X      which reason it is
use Rattle.std.proofs.Common.{◌≡◌, ◌≤◌, ◌<◌, le-leb, ℕ, List, length, Bool, true, false, if◌then◌else◌, nat_le, Option, Some, refl, sym, ap, ◌∙◌}
use Rattle.std.specs.Option.{option_map}
use Rattle.loops.specs.Limits.{most_bytes}
use Rattle.poly_text.specs.Lexemes.{Lexeme}
use Rattle.poly_text.specs.Kinds.{word_in}
use Rattle.poly_text.specs.Reasons.{Reason, syntax, limit, wide, twice, unknown, init_uses, unset, divisor, Fault}
use Rattle.poly_text.specs.Faults.{fault_of}
use Rattle.poly_text.specs.declared.error.TextError.{TextError}
use Rattle.poly_text.specs.declared.error.TextError.TheVariants.{Syntax, Limit, Wide, Twice, Unknown, InitUses, Unset, Divisor, Memory}
use Rattle.loop_text.specs.Seqs.{is_sequences, sequences_word, in_values, in_nexts}
use Rattle.poly_text.specs.NextToken.{seen_lexeme}
use Rattle.poly_text.specs.declared.lexemes.Lexeme as code
use Rattle.poly_text.specs.declared.lexemes.Lexeme.TheVariants as code_lexeme
use Rattle.std.proofs.lemmas.Bool.{lt-leb}
use Rattle.loop_text.specs.Telling.{told_at, next_in, retold_fault, Retells}

abbrev fault : Reason → ℕ → Fault
fault why at = record { reason = why; at = at }

same_offset : (a b : ℕ) → Some a ≡ Some b → a ≡ b
same_offset a b e = cc

abbrev pub is_syntax : Reason → Bool
is_syntax syntax = true
is_syntax why = false

record IsTold (e : TextError) (at : ℕ) : Type 0 where
  pub why : Reason
  pub is : fault_of e ≡ Some (fault why at)
  pub other : is_syntax why ≡ false

told_reason : (e : TextError) (at : ℕ) → told_at e ≡ Some at → IsTold e at
told_reason (Limit a) at e =
    record { why = limit; is = ap (λ b. Some (fault limit b)) (same_offset a at e); other = refl }
told_reason (Wide a) at e =
    record { why = wide; is = ap (λ b. Some (fault wide b)) (same_offset a at e); other = refl }
told_reason (Twice a) at e =
    record { why = twice; is = ap (λ b. Some (fault twice b)) (same_offset a at e); other = refl }
told_reason (Unknown a) at e =
    record {
      why = unknown;
      is = ap (λ b. Some (fault unknown b)) (same_offset a at e);
      other = refl;
    }
told_reason (InitUses a) at e =
    record {
      why = init_uses;
      is = ap (λ b. Some (fault init_uses b)) (same_offset a at e);
      other = refl;
    }
told_reason (Unset a) at e =
    record { why = unset; is = ap (λ b. Some (fault unset b)) (same_offset a at e); other = refl }
told_reason (Divisor a) at e =
    record {
      why = divisor;
      is = ap (λ b. Some (fault divisor b)) (same_offset a at e);
      other = refl;
    }
told_reason (Syntax a) at e = absurd (cc)
told_reason Memory at e = absurd (cc)

module _ (r : Lexeme → Reason → Reason) (keeps : (x : Lexeme) → r x syntax ≡ syntax)
    (text : List ℕ) where
  module _ (e : TextError) (at : ℕ) (h : told_at e ≡ Some at) where
    pub told_so : (result : TextError) (to : Reason) → fault_of result ≡ Some (fault to at)
        → ((why : Reason) → is_syntax why ≡ false → r (next_in text at) why ≡ to)
        → Retells r text e result
    told_so result to is iterations =
        let w = told_reason e at h in
        is ∙ ap (λ v. Some (fault v at)) (sym (iterations w.why w.other))
        ∙ sym (ap (option_map (retold_fault r text)) w.is)

    pub told_same : ((why : Reason) → is_syntax why ≡ false → r (next_in text at) why ≡ why)
        → Retells r text e e
    told_same same =
        let w = told_reason e at h in
        w.is ∙ ap (λ v. Some (fault v at)) (sym (same w.why w.other))
        ∙ sym (ap (option_map (retold_fault r text)) w.is)

-- ---- values that are given
module _ (x : Lexeme) where
  pub keeps_values : in_values x syntax ≡ syntax
  keeps_values = refl

  values_if : (b : Bool) (why : Reason) → is_sequences (word_in x) ≡ b
      → in_values x why ≡ (if b then syntax else why)
  values_if true syntax h = refl
  values_if false syntax h = refl
  values_if b limit h = ap (λ b. if b then syntax else limit) h
  values_if b wide h = ap (λ b. if b then syntax else wide) h
  values_if b twice h = ap (λ b. if b then syntax else twice) h
  values_if b unknown h = ap (λ b. if b then syntax else unknown) h
  values_if b init_uses h = ap (λ b. if b then syntax else init_uses) h
  values_if b unset h = ap (λ b. if b then syntax else unset) h
  values_if b divisor h = ap (λ b. if b then syntax else divisor) h

  pub values_syntax : (why : Reason) → is_sequences (word_in x) ≡ true → in_values x why ≡ syntax
  values_syntax why h = values_if true why h

  pub values_same : (why : Reason) → is_sequences (word_in x) ≡ false → in_values x why ≡ why
  values_same why h = values_if false why h

  -- ---- recurrences
  pub keeps_nexts : in_nexts x syntax ≡ syntax
  keeps_nexts = refl

  nexts_if : (b d : Bool) (why : Reason) → is_syntax why ≡ false → is_sequences (word_in x) ≡ b
      → nat_le (length (word_in x)) most_bytes ≡ d
      → in_nexts x why ≡ (if b then syntax else (if d then why else unknown))
  nexts_if b d syntax n h k = absurd (cc)
  nexts_if b d limit n h k =
      ap (λ b. if b then syntax else
      (if nat_le (length (word_in x)) most_bytes then limit else unknown)) h
      ∙ ap (λ d. if b then syntax else (if d then limit else unknown)) k
  nexts_if b d wide n h k =
      ap (λ b. if b then syntax else
      (if nat_le (length (word_in x)) most_bytes then wide else unknown)) h
      ∙ ap (λ d. if b then syntax else (if d then wide else unknown)) k
  nexts_if b d twice n h k =
      ap (λ b. if b then syntax else
      (if nat_le (length (word_in x)) most_bytes then twice else unknown)) h
      ∙ ap (λ d. if b then syntax else (if d then twice else unknown)) k
  nexts_if b d unknown n h k =
      ap (λ b. if b then syntax else
      (if nat_le (length (word_in x)) most_bytes then unknown else unknown)) h
      ∙ ap (λ d. if b then syntax else (if d then unknown else unknown)) k
  nexts_if b d init_uses n h k =
      ap (λ b. if b then syntax else
      (if nat_le (length (word_in x)) most_bytes then init_uses else unknown)) h
      ∙ ap (λ d. if b then syntax else (if d then init_uses else unknown)) k
  nexts_if b d unset n h k =
      ap (λ b. if b then syntax else
      (if nat_le (length (word_in x)) most_bytes then unset else unknown)) h
      ∙ ap (λ d. if b then syntax else (if d then unset else unknown)) k
  nexts_if b d divisor n h k =
      ap (λ b. if b then syntax else
      (if nat_le (length (word_in x)) most_bytes then divisor else unknown)) h
      ∙ ap (λ d. if b then syntax else (if d then divisor else unknown)) k

module _ (x : Lexeme) (why : Reason) (other : is_syntax why ≡ false) where
  pub nexts_syntax : is_sequences (word_in x) ≡ true → in_nexts x why ≡ syntax
  nexts_syntax h = nexts_if x true (nat_le (length (word_in x)) most_bytes) why other h refl

  pub nexts_unknown : is_sequences (word_in x) ≡ false
      → nat_le (length (word_in x)) most_bytes ≡ false → in_nexts x why ≡ unknown
  nexts_unknown h k = nexts_if x false false why other h k

  pub nexts_same : is_sequences (word_in x) ≡ false → nat_le (length (word_in x)) most_bytes ≡ true
      → in_nexts x why ≡ why
  nexts_same h k = nexts_if x false true why other h k

-- ---- what is no name has no word
pub no_sequences : (l : code.Lexeme) → ((w : _) → l ≡ code_lexeme.Name w → ⊥)
    → is_sequences (word_in (seen_lexeme l)) ≡ false
unfolding sequences_word
no_sequences (code_lexeme.Name w) other = absurd (other w refl)
no_sequences l other = refl

pub no_length : (l : code.Lexeme) → ((w : _) → l ≡ code_lexeme.Name w → ⊥)
    → nat_le (length (word_in (seen_lexeme l))) most_bytes ≡ true
unfolding most_bytes
no_length (code_lexeme.Name w) other = absurd (other w refl)
no_length l other = refl

pub short_word : (w : List ℕ) → length w ≤ 32 → nat_le (length w) most_bytes ≡ true
unfolding most_bytes
short_word w h = le-leb (length w) 32 h

pub long_word : (w : List ℕ) → 32 < length w → nat_le (length w) most_bytes ≡ false
unfolding most_bytes
long_word w h = lt-leb (length w) 32 h
