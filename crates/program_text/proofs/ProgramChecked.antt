-- The grammar of programs is checked: the next token tells which way to go. The language of sums is embedded in it.
--   sums_embedded    so it is
--   programs_checked    the language's rules; program_whole: a whole program
use Rattle.std.proofs.Common.{◌≡◌, ℕ, zero, suc, ◌+◌, ◌≤◌, List, ◌∷◌, length, refl, sym, subst, Bool, true, false, nat_lt, pos, arith}
use Rattle.std.proofs.lemmas.Bool.Decides.{nat_tests}
use Rattle.loops.specs.Program.{number, divide}
use Rattle.program_text.specs.Words as words
use Rattle.loop_model.specs.Words as loop_words
use Rattle.grammars.specs.Kinds.{within}
use Rattle.grammars.specs.Grammar.{Placed, change, rule, after_change}
use Rattle.grammars.specs.Derivation.{derives_token, derives_change, derives_sequence, derives_left, derives_right, derives_none, derives_rule, Text}
use Rattle.grammars.specs.Embedded.{IsEmbedded, lift}
use Rattle.grammars.specs.First.{first, may_be_empty}
use Rattle.grammars.specs.Checked.{is_fit, begins_closed, IsChecked, IsWhole}
use Rattle.program_text.specs.Lexemes.{Lexeme}
use Rattle.program_text.specs.Kinds.{a_name, a_number, a_sign, a_keyword, an_item, same, sample}
use Rattle.program_text.specs.Sums.{a_sum, a_factor, a_divisor, divisor_by, sum_language, push, with_one}
use Rattle.program_text.proofs.SumChecked.{kinds_exact, by_free}
use Rattle.program_text.specs.Programs.{ProgramContext, ProgramState, ProgramRule, Rule, of_sums, more_values, a_statement, an_if, begin_value, end_value, keep, with_value, sums_in_programs, more_if, another_value, rule_says, rule_begins, may_follow, may_be_none, program_language, whole_program}

pub sums_embedded : IsEmbedded sums_in_programs sum_language program_language
sums_embedded = record {
  get_put = λ d c. refl;
  put_put = λ d e c. refl;
  put_get = λ c. refl;
  value_get_put = λ w v. refl;
  value_put_put = λ w x v. refl;
  value_put_get = λ v. refl;
  kinds = λ ks y. refl;
  says = λ n c. refl;
  begins = λ n. refl;
  empty = λ n. refl;
}

pub by_more : (P : Rule → Type 0) → P another_value → P (more_if false) → (b : Bool) → P (more_if b)
by_more P more none true = more
by_more P more none false = none

-- what the rule n says is g
record Fits (n : ProgramRule) (g : Rule) : Type 0 where
  fit : is_fit program_language g (may_follow n) ≡ true
  closed : begins_closed program_language g ≡ true
  begins : within same (first program_language g) (rule_begins n) ≡ true

fits : (n : ProgramRule) (c : ProgramContext) → Fits n (rule_says n c)
unfolding words.keyword_of loop_words.keyword_of
fits (of_sums a_sum) c = record { fit = refl; closed = refl; begins = refl }
fits (of_sums a_factor) c = record { fit = refl; closed = refl; begins = refl }
fits (of_sums a_divisor) c = by_free (λ g. Fits (of_sums a_divisor) (lift sums_in_programs g))
    (record { fit = refl; closed = refl; begins = refl })
    (record { fit = refl; closed = refl; begins = refl }) c.sum.free
fits more_values c = by_more (Fits more_values) (record {
  fit = refl;
  closed = refl;
  begins = refl;
}) (record { fit = refl; closed = refl; begins = refl })
    (nat_lt c.values (length c.targets))
fits a_statement c = record { fit = refl; closed = refl; begins = refl }
fits an_if c = record { fit = refl; closed = refl; begins = refl }

full : (n : ProgramRule) (c : ProgramContext) → may_be_empty program_language (rule_says n c) ≡ true
    → may_be_none n ≡ true
full (of_sums a_sum) c e = e
full (of_sums a_factor) c e = e
full (of_sums a_divisor) c e = by_free (λ g.
    may_be_empty program_language (lift sums_in_programs g) ≡ true → false ≡ true) (λ e. e) (λ e. e)
    c.sum.free e
full more_values c e = refl
full a_statement c e = e
full an_if c e = e

pub program_whole : IsWhole program_language whole_program
unfolding words.keyword_of loop_words.keyword_of
program_whole = record { fit = refl; ends = refl }

-- ---- each rule has a text: the number 1 is a factor and a sum, `a = any;` and `if ! { }` are
-- statements
abbrev after_one : ProgramState → ProgramState
after_one s = record s { value = record s.value { sum = push (number (pos 1)) s.value.sum } }

abbrev in_value : ProgramState → ProgramState
in_value s = after_change begin_value keep s

abbrev after_value : ProgramState → ProgramState
after_value s = after_change end_value with_value (after_one (in_value s))

abbrev after_divisor : ProgramState → ProgramState
after_divisor s =
    record s { value = record s.value { sum = with_one (λ at e. divide at e (pos 1)) s.value.sum } }

abbrev HasText : List Rule → ProgramState → Type 0
HasText gs s = Text program_language gs s

abbrev one : Placed Lexeme
one = record { at = 0; lexeme = sample a_number }

abbrev the_sign : ℕ → Placed Lexeme
the_sign b = record { at = 0; lexeme = sample (a_sign b) }

module _ (gs : List Rule) where
  sum_text : (s : ProgramState) → HasText gs (after_one s)
      → HasText (rule (of_sums a_sum) ∷ gs) s
  sum_text s later =
      record {
        marks = _;
        end = later.end;
        derivation =
            derives_rule
            (derives_sequence
            (derives_sequence
            (derives_left
            (derives_sequence
            (derives_left (derives_token {x = one} refl
            (derives_right
            (derives_change (derives_none (derives_none later.derivation))))))))));
      }

  divisor_text : (s : ProgramState) → HasText gs (after_divisor s)
      → HasText (rule (of_sums a_divisor) ∷ gs) s
  divisor_text s later =
      said (by_free (λ g. HasText (lift sums_in_programs g ∷ gs) s) (record {
        marks = _;
        end = _;
        derivation = derives_token {x = one} refl later.derivation;
      }) (record {
        marks = _;
        end = _;
        derivation = derives_left (derives_token {x = one} refl later.derivation);
      }) s.context.sum.free)
    where
      said : HasText (lift sums_in_programs (divisor_by s.context.sum.free) ∷ gs) s
          → HasText (rule (of_sums a_divisor) ∷ gs) s
      said t = record { marks = t.marks; end = t.end; derivation = derives_rule t.derivation }

  factor_text : (s : ProgramState) → HasText gs (after_one s)
      → HasText (rule (of_sums a_factor) ∷ gs) s
  factor_text s later = record {
    marks = _;
    end = later.end;
    derivation =
        derives_rule
        (derives_left
        (derives_sequence
        (derives_left (derives_token {x = one} refl
        (derives_right (derives_change later.derivation))))));
  }

-- ---- as many right sides as targets
module _ (gs : List Rule) (later : (t : ProgramState) → HasText gs t) where
  by_test : (s : ProgramState)
      → HasText (more_if (nat_lt s.context.values (length s.context.targets)) ∷ gs) s
      → HasText (rule more_values ∷ gs) s
  by_test s text = record {
    marks = text.marks;
    end = text.end;
    derivation = derives_rule text.derivation;
  }

  enough : (s : ProgramState) → HasText (more_if false ∷ gs) s
  enough s = record {
    marks = (later s).marks;
    end = (later s).end;
    derivation = derives_change (later s).derivation;
  }

  another : (s : ProgramState) → HasText (rule more_values ∷ gs) (after_value s)
      → HasText (another_value ∷ gs) s
  another s more =
      let value = sum_text (change end_value with_value ∷ rule more_values ∷ gs) (in_value s)
      (record {
        marks = more.marks;
        end = more.end;
        derivation = derives_change more.derivation;
      }) in
      record {
        marks = _;
        end = value.end;
        derivation =
            derives_sequence (derives_token {x = the_sign 44} refl
            (derives_sequence (derives_sequence (derives_change (derives_sequence
            value.derivation)))));
      }

  -- with at most k to come
  values_text : (k : ℕ) (s : ProgramState) → length s.context.targets ≤ s.context.values + k
      → HasText (rule more_values ∷ gs) s
  values_text zero s e = let none : nat_lt s.context.values (length s.context.targets) ≡ false =
      grind (arith, nat_tests) in by_test s (subst (λ b. HasText (more_if b ∷ gs) s) (sym none)
      (enough s))
  values_text (suc k) s e =
      by_test s (by_more (λ g. HasText (g ∷ gs) s)
      (another s (values_text k (after_value s) (omega arith))) (enough s)
      (nat_lt s.context.values (length s.context.targets)))

  statement_text : (s : ProgramState) → HasText (rule a_statement ∷ gs) s
  unfolding words.keyword_of loop_words.keyword_of
  statement_text s = record {
    marks = _;
    end = _;
    derivation =
        derives_rule
        (derives_left
        (derives_sequence
        (derives_token {x = record { at = 0; lexeme = sample a_name }} refl
        (derives_sequence
        (derives_token {x = the_sign 61} refl
        (derives_left
        (derives_sequence
        (derives_token {x = record { at = 0; lexeme = sample (a_keyword words.any_word) }} refl
        (derives_token {x = the_sign 59} refl (later _).derivation)))))))));
  }

  if_text : (s : ProgramState) → HasText (rule an_if ∷ gs) s
  if_text s = record {
    marks = _;
    end = _;
    derivation =
        derives_rule
        (derives_sequence
        (derives_token {x = record { at = 0; lexeme = sample (a_keyword words.if_word) }} refl
        (derives_sequence (derives_sequence (derives_sequence
        (derives_token {x = record { at = 0; lexeme = sample an_item }} refl
        (derives_none
        (derives_token {x = the_sign 123} refl
        (derives_sequence (derives_sequence (derives_none
        (derives_token {x = the_sign 125} refl
        (derives_sequence (derives_right (derives_change (derives_change
        (later _).derivation))))))))))))))));
  }

text : (n : ProgramRule) (s : ProgramState) (gs : List Rule) → ((t : ProgramState) → HasText gs t)
    → HasText (rule n ∷ gs) s
text (of_sums a_sum) s gs later = sum_text gs s (later (after_one s))
text (of_sums a_factor) s gs later = factor_text gs s (later (after_one s))
text (of_sums a_divisor) s gs later = divisor_text gs s (later (after_divisor s))
text more_values s gs later = values_text gs later (length s.context.targets) s (omega arith)
text a_statement s gs later = statement_text gs later s
text an_if s gs later = if_text gs later s

pub programs_checked : IsChecked program_language
programs_checked = record {
  kinds = kinds_exact;
  fit = λ n c. (fits n c).fit;
  closed = λ n c. (fits n c).closed;
  begins = λ n c. (fits n c).begins;
  empty = full;
  text = text;
}
