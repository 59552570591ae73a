-- Values that are given, and right sides of recurrences.
--   begun_told, other_told     behind as many values as there may be: what may begin a value, and what may not
--   begun_X                    what may begin one;  not_begun: what may not
--   value_goes, value_fails    a value that is read, and its fault
--   value_given, right_over    what was read is within the limits
use Rattle.std.proofs.Common.{◌≡◌, ◌<◌, ◌≤◌, ◌^◌, ℕ, suc, List, [], ◌∷◌, ◌++◌, length, refl, sym, ap, subst, ◌∙◌, Bool, true, false, true≢false, if◌then◌else◌, nat_lt, arith, Ok, All, sum_by}
use Rattle.std.proofs.lemmas.Bool.{le-ltb}
use Rattle.std.proofs.lemmas.Bool.Decides.{nat_tests}
use Rattle.std.proofs.lemmas.List.Elements.{All-head}
use Rattle.std.proofs.lemmas.List.Sums.{sum_by-cons}
use Rattle.loops.specs.Limits.{most_names, operators}
use Rattle.loops.specs.Program.{Expr}
use Rattle.loops.proofs.Starts.{uses_weaker}
use Rattle.grammars.specs.Kinds.{has}
use Rattle.grammars.specs.Grammar.{change, sequence, rule}
use Rattle.grammars.specs.Embedded.{lift, with_part}
use Rattle.poly_text.specs.Lexemes as lexemes
use Rattle.poly_text.specs.Lexemes.{Lexeme, Placed, is_sign_of}
use Rattle.poly_text.specs.NextToken.{seen_lexeme}
use Rattle.poly_text.specs.Kinds.{a_name, a_number, no_kind, same, kind_of, word_in}
use Rattle.poly_text.specs.Reasons.{syntax, limit, init_uses}
use Rattle.poly_text.specs.Sums as sums
use Rattle.poly_text.specs.Sums.{a_sum, begins_sum, sum_language}
use Rattle.poly_text.specs.CursorView.{rest, behind}
use Rattle.poly_text.specs.Reads.{Around, state_in, behind_expr}
use Rattle.poly_text.specs.Telling as telling
use Rattle.poly_text.specs.declared.cursor.Cursor.{Cursor}
use Rattle.poly_text.specs.declared.error.TextError.{TextError}
use Rattle.poly_text.specs.declared.lexemes.Lexeme as code
use Rattle.poly_text.specs.declared.lexemes.Lexeme.TheVariants as code_lexeme
use Rattle.poly_text.proofs.AllowedNames.{Allowed}
use Rattle.poly_text.proofs.CursorReads.{fault_at, here, sign_here, genuine_name, genuine_number, token_faulty, token_barred}
use Rattle.poly_text.proofs.KindTests.{unlike}
use Rattle.poly_text.proofs.Paths.{reading_rule, reading_change, then_on, stopped}
use Rattle.poly_text.proofs.SumKept.{Fits, Safe, none_safe, reading_safe}
use Rattle.grammars.specs.Retold.{retold}
use Rattle.loop_text.specs.Seqs.{SeqState, of_values, a_value, value, value_if, end_value, with_value, variable_name, last, no_sum, no_sum_value, in_values, is_sequences, sequences_word, sums_in_values, seq_language}
use Rattle.loop_text.specs.LoopLayout.{IsGiven, UsesBelow}
use Rattle.loop_text.proofs.SeqChecked.{seqs_checked, values_embedded}
use Rattle.loop_text.specs.SequenceStates.{reading, IsFault, in_first}
use Rattle.loop_text.proofs.SequenceSumReads.{sum_read}

-- ---- behind as many as there may be
pub full_here : (n v : ℕ) → n ≡ v → 12 ≤ v → most_names ≤ n
unfolding most_names
full_here n v e h = omega (arith, e, h)

pub room_here : (n v : ℕ) → n ≡ v → v < 12 → n < most_names
unfolding most_names
room_here n v e h = omega (arith, e, h)

module _ (k : Cursor) (s : SeqState) (full : most_names ≤ length s.context.variables) where
  abbrev x : Lexeme
  x = seen_lexeme k.token.lexeme

  at_full : reading value s (rest k) ≡ reading (value_if false) s (rest k)
  at_full = reading_rule seq_language seqs_checked a_value s (rest k)
      ∙ ap (λ b. reading (value_if b) s (rest k))
      (le-ltb (length s.context.variables) most_names full)

  pub begun_told : has same begins_sum (kind_of (seen_lexeme k.token.lexeme)) ≡ true
      → (b : Bool) → is_sequences (word_in (seen_lexeme k.token.lexeme)) ≡ b
      → fault_at (if b then syntax else limit) k.token.at ≡ reading value s (rest k)
  begun_told h b e =
      ap (λ b. fault_at (if b then syntax else limit) k.token.at) (sym e)
      ∙ token_faulty seq_language (value_if false) refl s k x refl h (in_values x limit) refl
      ∙ sym at_full

  pub other_told : has same begins_sum (kind_of (seen_lexeme k.token.lexeme)) ≡ false
      → fault_at syntax k.token.at ≡ reading value s (rest k)
  other_told h = token_barred seq_language (value_if false) refl s k h ∙ sym at_full

module _ (k : Cursor) where
  abbrev begins : code.Lexeme → Bool
  begins l = has same begins_sum (kind_of (seen_lexeme l))

  pub begun_name : (w : _) → k.token.lexeme ≡ code_lexeme.Name w
      → has same begins_sum (kind_of (seen_lexeme k.token.lexeme)) ≡ true
  begun_name w e = ap begins e
      ∙ ap (λ t. has same begins_sum (if t then a_name else no_kind)) (genuine_name k w e)

  pub begun_number : (v : ℕ) → k.token.lexeme ≡ code_lexeme.Number v
      → has same begins_sum (kind_of (seen_lexeme k.token.lexeme)) ≡ true
  begun_number v e =
      let small = genuine_number k v e in
      let test : nat_lt v (2 ^ 127) ≡ true = grind (arith, nat_tests) in
      ap begins e ∙ ap (λ t. has same begins_sum (if t then a_number else no_kind)) test

  pub begun_large : k.token.lexeme ≡ code_lexeme.Large
      → has same begins_sum (kind_of (seen_lexeme k.token.lexeme)) ≡ true
  begun_large e = ap begins e

  pub begun_sign : (b : ℕ) → is_sign_of (seen_lexeme k.token.lexeme) b ≡ true
      → has same begins_sum (kind_of (lexemes.sign b)) ≡ true
      → has same begins_sum (kind_of (seen_lexeme k.token.lexeme)) ≡ true
  begun_sign b h is = ap (λ x. has same begins_sum (kind_of x)) (sign_here k b h) ∙ is

  pub sign_no_word : (b : ℕ) → is_sign_of (seen_lexeme k.token.lexeme) b ≡ true
      → is_sequences (word_in (seen_lexeme k.token.lexeme)) ≡ false
  unfolding sequences_word
  sign_no_word b h = ap (λ x. is_sequences (word_in x)) (sign_here k b h)

  pub not_begun : is_sign_of (seen_lexeme k.token.lexeme) 40 ≡ false
      → is_sign_of (seen_lexeme k.token.lexeme) 45 ≡ false
      → ((w : _) → k.token.lexeme ≡ code_lexeme.Name w → ⊥)
      → ((v : _) → k.token.lexeme ≡ code_lexeme.Number v → ⊥)
      → (k.token.lexeme ≡ code_lexeme.Large → ⊥)
      → has same begins_sum (kind_of (seen_lexeme k.token.lexeme)) ≡ false
  not_begun h g name number large = unlike begins_sum k.token.lexeme refl (
    number,
    (
      large,
      (
        name,
        (
          (λ e. true≢false (sym (ap (λ l. is_sign_of (seen_lexeme l) 40) e) ∙ h)),
          ((λ e. true≢false (sym (ap (λ l. is_sign_of (seen_lexeme l) 45) e) ∙ g)), tt),
        ),
      ),
    ),
  )

-- ---- a sum where no other waits
abbrev pub in_sum : List (List ℕ) → Around
in_sum names = record {
  names = names;
  refused = [];
  refusal = init_uses;
  depth = 0;
  used = [];
  value = no_sum_value;
}

module _ (names : List (List ℕ)) (e : Expr ℕ) (count : ℕ) (c d : Cursor) where
  abbrev pub ReadsSum : Type 0
  ReadsSum = Ok (state_in (behind_expr (in_sum names) e) count, rest d)
      ≡ telling.reading sum_language (rule a_sum) (state_in (in_sum names) 0) (rest c)

  kept : ReadsSum → Safe names [] [] (state_in (behind_expr (in_sum names) e) count)
  kept h = reading_safe names [] [] (rule a_sum) tt (state_in (in_sum names) 0)
      (state_in (behind_expr (in_sum names) e) count) (rest c) (rest d) h
      (none_safe (no_sum names) no_sum_value refl (omega arith))

  pub right_over : ReadsSum → UsesBelow (length names) e
  right_over h =
      let s = kept h in
      let f = All-head (Fits names [] _) e [] s.each in
      let l = sum_by-cons operators e [] in
      record {
        uses = uses_weaker (Allowed names []) (λ i. i < length names) (λ i a. a.within) e f.over;
        small = record {
          few_operators = let a = s.few in let b = s.limited in omega (arith, a, b, l);
          low_exponents = f.low;
        };
      }

  pub value_given : names ≡ [] → ReadsSum → IsGiven e
  value_given none h =
      let o = right_over h in
      record {
        uses = uses_weaker (λ i. i < length names) (λ i. ⊥)
            (λ i l. let z : length names ≡ 0 = ap length none in omega (arith, l, z)) e o.uses;
        small = o.small;
      }

-- ---- a value
module _ (s : SeqState) (ts : List Placed) (room : length s.context.variables < most_names) where
  at_value : reading value s ts
      ≡ reading (sequence (lift sums_in_values (retold in_values sums.sum))
      (change end_value with_value)) s ts
  at_value =
      let test : nat_lt (length s.context.variables) most_names ≡ true = grind (arith, nat_tests) in
      reading_rule seq_language seqs_checked a_value s ts ∙ ap (λ b. reading (value_if b) s ts) test

  at_sum : reading (rule (of_values a_sum)) s ts
      ≡ reading (lift sums_in_values (retold in_values sums.sum)) s ts
  at_sum = reading_rule seq_language seqs_checked (of_values a_sum) s ts

  pub value_fails : (d : TextError) → IsFault d (reading (rule (of_values a_sum)) s ts)
      → IsFault d (reading value s ts)
  value_fails d h = subst (IsFault d) (sym at_value)
      (stopped seq_language (lift sums_in_values (retold in_values sums.sum))
      (change end_value with_value) s ts d (subst (IsFault d) at_sum h))

module _ (ws vs : List (List ℕ)) (rs : List ℕ) (es : List (Expr ℕ)) (own : ℕ) (e : Expr ℕ)
    (count : ℕ) (c d : Cursor) where
  pub value_goes : length vs < most_names → ReadsSum [] e count c d
      → Ok (
        in_first ws (vs ++ variable_name (last ws) own ∷ []) rs (es ++ e ∷ []) (suc own),
        rest d,
      )
      ≡ reading value (in_first ws vs rs es own) (rest c)
  value_goes room h =
      let s = in_first ws vs rs es own in
      let t = with_part sums_in_values (state_in (behind_expr (in_sum []) e) count) s in
      let read = sum_read in_values (λ x. refl) sums_in_values values_embedded s (rest c)
      (state_in (behind_expr (in_sum []) e) count) (rest d) h in
      sym (at_value s (rest c) room
      ∙ then_on seq_language (lift sums_in_values (retold in_values sums.sum))
      (change end_value with_value) s (rest c) t (rest d) (read ∙ at_sum s (rest c) room)
      ∙ reading_change seq_language end_value with_value t (here d) (behind d))
