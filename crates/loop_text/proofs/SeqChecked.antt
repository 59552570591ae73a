-- The grammar of sequences is checked: the next token tells which way to go. The language of sums is embedded in it.
--   values_embedded, nexts_embedded     so it is
--   by_value, by_next                   what holds whichever way a rule says
--   seqs_checked                        the language's rules; seqs_whole: whole texts
use Rattle.std.proofs.Common.{◌≡◌, ℕ, zero, suc, ◌+◌, ◌≤◌, List, ◌∷◌, length, refl, sym, subst, Bool, true, false, nat_lt, pos, arith}
use Rattle.std.proofs.lemmas.Bool.Decides.{nat_tests}
use Rattle.loops.specs.Limits.{most_names}
use Rattle.loops.specs.Program.{number}
use Rattle.loop_model.specs.Words as words
use Rattle.grammars.specs.Kinds.{within}
use Rattle.grammars.specs.Grammar.{Placed, change, rule, after_change}
use Rattle.grammars.specs.Derivation.{derives_token, derives_change, derives_sequence, derives_left, derives_right, derives_none, derives_rule, Text}
use Rattle.grammars.specs.Embedded.{IsEmbedded, lift}
use Rattle.grammars.specs.First.{first, may_be_empty}
use Rattle.grammars.specs.Checked.{is_fit, begins_closed, IsChecked, IsWhole}
use Rattle.poly_text.specs.Lexemes.{Lexeme}
use Rattle.poly_text.specs.Kinds.{a_number, a_name, a_sign, same, sample}
use Rattle.poly_text.specs.Sums as sums
use Rattle.poly_text.specs.Sums.{a_sum, a_factor, sum_language, push}
use Rattle.poly_text.proofs.SumChecked.{kinds_exact}
use Rattle.grammars.specs.Retold.{retold, retold_language}
use Rattle.loop_text.specs.Seqs.{SeqContext, SeqState, SeqRule, Rule, of_values, of_nexts, a_value, more_nexts, end_value, with_value, end_next, with_next, in_values, in_nexts, sums_in_values, sums_in_nexts, value_if, next_if, next, given_value, rule_says, rule_begins, may_follow, may_be_none, seq_language, whole_seqs}

pub values_embedded : IsEmbedded sums_in_values
    (retold_language in_values sum_language) seq_language
values_embedded = record {
  get_put = λ d c. refl;
  put_put = λ d e c. refl;
  put_get = λ c. refl;
  value_get_put = λ w v. refl;
  value_put_put = λ w x v. refl;
  value_put_get = λ v. refl;
  kinds = λ ks y. refl;
  says = λ n c. refl;
  begins = λ n. refl;
  empty = λ n. refl;
}

pub nexts_embedded : IsEmbedded sums_in_nexts (retold_language in_nexts sum_language) seq_language
nexts_embedded = record {
  get_put = λ d c. refl;
  put_put = λ d e c. refl;
  put_get = λ c. refl;
  value_get_put = λ w v. refl;
  value_put_put = λ w x v. refl;
  value_put_get = λ v. refl;
  kinds = λ ks y. refl;
  says = λ n c. refl;
  begins = λ n. refl;
  empty = λ n. refl;
}

pub by_value : (P : Rule → Type 0) → P given_value → P (value_if false) → (b : Bool)
    → P (value_if b)
by_value P some none true = some
by_value P some none false = none

pub by_next : (P : Rule → Type 0) → P (next_if true) → P (next_if false) → (b : Bool)
    → P (next_if b)
by_next P more none true = more
by_next P more none false = none

-- what the rule n says is g
record Fits (n : SeqRule) (g : Rule) : Type 0 where
  fit : is_fit seq_language g (may_follow n) ≡ true
  closed : begins_closed seq_language g ≡ true
  begins : within same (first seq_language g) (rule_begins n) ≡ true

fits : (n : SeqRule) (c : SeqContext) → Fits n (rule_says n c)
unfolding words.keyword_of
fits (of_values a_sum) c = record { fit = refl; closed = refl; begins = refl }
fits (of_values a_factor) c = record { fit = refl; closed = refl; begins = refl }
fits (of_nexts a_sum) c = record { fit = refl; closed = refl; begins = refl }
fits (of_nexts a_factor) c = record { fit = refl; closed = refl; begins = refl }
fits a_value c = by_value (Fits a_value) (record { fit = refl; closed = refl; begins = refl })
    (record { fit = refl; closed = refl; begins = refl }) (nat_lt (length c.variables) most_names)
fits more_nexts c = by_next (Fits more_nexts) (record { fit = refl; closed = refl; begins = refl })
    (record { fit = refl; closed = refl; begins = refl }) (nat_lt c.nexts (length c.sequences))

full : (n : SeqRule) (c : SeqContext) → may_be_empty seq_language (rule_says n c) ≡ true
    → may_be_none n ≡ true
full (of_values a_sum) c e = e
full (of_values a_factor) c e = e
full (of_nexts a_sum) c e = e
full (of_nexts a_factor) c e = e
full a_value c e = by_value (λ g. may_be_empty seq_language g ≡ true → false ≡ true) (λ e. e)
    (λ e. e) (nat_lt (length c.variables) most_names) e
full more_nexts c e = refl

pub seqs_whole : IsWhole seq_language whole_seqs
unfolding words.keyword_of
seqs_whole = record { fit = refl; ends = refl }

-- ---- each rule has a text: the number 1 is a factor and a sum
abbrev after_one : SeqState → SeqState
after_one s = record s { value = record s.value { sum = push (number (pos 1)) s.value.sum } }

abbrev HasText : List Rule → SeqState → Type 0
HasText gs s = Text seq_language gs s

abbrev one : Placed Lexeme
one = record { at = 0; lexeme = sample a_number }

module _ (gs : List Rule) where
  value_body_text : (s : SeqState) → HasText gs (after_one s)
      → HasText (lift sums_in_values (retold in_values sums.sum) ∷ gs) s
  value_body_text s later =
      record {
        marks = _;
        end = later.end;
        derivation = derives_sequence
            (derives_sequence (derives_left
            (derives_sequence (derives_left
            (derives_token {x = one} refl
            (derives_right (derives_change (derives_none (derives_none later.derivation)))))))));
      }

  value_sum_text : (s : SeqState) → HasText gs (after_one s)
      → HasText (rule (of_values a_sum) ∷ gs) s
  value_sum_text s later = let body = value_body_text s later in
      record { marks = body.marks; end = body.end; derivation = derives_rule body.derivation }

  value_factor_text : (s : SeqState) → HasText gs (after_one s)
      → HasText (rule (of_values a_factor) ∷ gs) s
  value_factor_text s later =
      record {
        marks = _;
        end = later.end;
        derivation = derives_rule
            (derives_left (derives_sequence
            (derives_left (derives_token {x = one} refl
            (derives_right (derives_change later.derivation))))));
      }

  next_sum_text : (s : SeqState) → HasText gs (after_one s) → HasText (rule (of_nexts a_sum) ∷ gs) s
  next_sum_text s later =
      record {
        marks = _;
        end = later.end;
        derivation = derives_rule
            (derives_sequence (derives_sequence
            (derives_left (derives_sequence
            (derives_left (derives_token {x = one} refl
            (derives_right (derives_change (derives_none (derives_none later.derivation))))))))));
      }

  next_factor_text : (s : SeqState) → HasText gs (after_one s)
      → HasText (rule (of_nexts a_factor) ∷ gs) s
  next_factor_text s later =
      record {
        marks = _;
        end = later.end;
        derivation = derives_rule
            (derives_left (derives_sequence
            (derives_left (derives_token {x = one} refl
            (derives_right (derives_change later.derivation))))));
      }

module _ (gs : List Rule) (later : (t : SeqState) → HasText gs t) where
  -- ---- a value
  by_room : (s : SeqState)
      → HasText (value_if (nat_lt (length s.context.variables) most_names) ∷ gs) s
      → HasText (rule a_value ∷ gs) s
  by_room s text = record {
    marks = text.marks;
    end = text.end;
    derivation = derives_rule text.derivation;
  }

  a_given : (s : SeqState) → HasText (given_value ∷ gs) s
  a_given s =
      let rest = later (after_change end_value with_value (after_one s)) in
      let sum = value_body_text (change end_value with_value ∷ gs) s
      (record {
        marks = rest.marks;
        end = rest.end;
        derivation = derives_change rest.derivation;
      }) in
      record { marks = sum.marks; end = sum.end; derivation = derives_sequence sum.derivation }

  too_many : (s : SeqState) → HasText (value_if false ∷ gs) s
  too_many s = record {
    marks = _;
    end = (later s).end;
    derivation = derives_token {x = one} refl (later s).derivation;
  }

  value_text : (s : SeqState) → HasText (rule a_value ∷ gs) s
  value_text s = by_room s
      (by_value (λ g. HasText (g ∷ gs) s) (a_given s) (too_many s)
      (nat_lt (length s.context.variables) most_names))

  -- ---- as many recurrences as sequences
  by_test : (s : SeqState)
      → HasText (next_if (nat_lt s.context.nexts (length s.context.sequences)) ∷ gs) s
      → HasText (rule more_nexts ∷ gs) s
  by_test s text = record {
    marks = text.marks;
    end = text.end;
    derivation = derives_rule text.derivation;
  }

  enough : (s : SeqState) → HasText (next_if false ∷ gs) s
  enough s = record {
    marks = (later s).marks;
    end = (later s).end;
    derivation = derives_change (later s).derivation;
  }

  abbrev after_next : SeqState → SeqState
  after_next s = after_change end_next with_next (after_one s)

  another : (s : SeqState) → HasText (rule more_nexts ∷ gs) (after_next s)
      → HasText (next_if true ∷ gs) s
  unfolding words.keyword_of
  another s more =
      let name : Placed Lexeme = record { at = 0; lexeme = sample a_name } in
      let equals : Placed Lexeme = record { at = 0; lexeme = sample (a_sign 61) } in
      let semicolon : Placed Lexeme = record { at = 0; lexeme = sample (a_sign 59) } in
      record {
        marks = _;
        end = more.end;
        derivation = derives_sequence
            (derives_sequence (derives_token {x = name} refl
            (derives_sequence (derives_token {x = equals} refl
            (derives_sequence (derives_rule
            (derives_sequence (derives_sequence
            (derives_left (derives_sequence
            (derives_left (derives_token {x = one} refl
            (derives_right (derives_change
            (derives_none (derives_none
            (derives_token {x = semicolon} refl more.derivation)))))))))))))))));
      }

  -- with at most k to come
  nexts_text : (k : ℕ) (s : SeqState) → length s.context.sequences ≤ s.context.nexts + k
      → HasText (rule more_nexts ∷ gs) s
  nexts_text zero s e = let none : nat_lt s.context.nexts (length s.context.sequences) ≡ false =
      grind (arith, nat_tests) in
      by_test s (subst (λ b. HasText (next_if b ∷ gs) s) (sym none) (enough s))
  nexts_text (suc k) s e =
      by_test s (by_next (λ g. HasText (g ∷ gs) s)
      (another s (nexts_text k (after_next s) (omega arith))) (enough s)
      (nat_lt s.context.nexts (length s.context.sequences)))

text : (n : SeqRule) (s : SeqState) (gs : List Rule) → ((t : SeqState) → HasText gs t)
    → HasText (rule n ∷ gs) s
unfolding words.keyword_of
text (of_values a_sum) s gs later = value_sum_text gs s (later (after_one s))
text (of_values a_factor) s gs later = value_factor_text gs s (later (after_one s))
text (of_nexts a_sum) s gs later = next_sum_text gs s (later (after_one s))
text (of_nexts a_factor) s gs later = next_factor_text gs s (later (after_one s))
text a_value s gs later = value_text gs later s
text more_nexts s gs later = nexts_text gs later (length s.context.sequences) s (omega arith)

pub seqs_checked : IsChecked seq_language
seqs_checked = record {
  kinds = kinds_exact;
  fit = λ n c. (fits n c).fit;
  closed = λ n c. (fits n c).closed;
  begins = λ n c. (fits n c).begins;
  empty = full;
  text = text;
}
