-- The grammar of sums is checked: the next token tells which way to go. Each text of a sum or an equation has the lexemes of some bytes.
--   kinds_exact        the test whether two kinds are the same decides it
use Rattle.std.proofs.Common.{ap, ◌≡◌, List, ◌∷◌, refl, Bool, true, false}
use Rattle.std.proofs.lemmas.Bool.{eqb-true}
use Rattle.algebra.proofs.Basics.{eqb_same}
use Rattle.program_text.specs.Words.{Keyword, vars_word, if_word, else_word, while_word, for_word, assume_word, assert_word, any_word, unknown_word, loop_word}
use Rattle.program_text.specs.Doubles.{Double, equal, differs, dots}
use Rattle.grammars.specs.Kinds.{IsExact, within}
use Rattle.grammars.specs.Grammar.{Placed, rule}
use Rattle.grammars.specs.Derivation.{derives_token, derives_change, derives_sequence, derives_left, derives_right, derives_none, derives_rule, Text}
use Rattle.grammars.specs.First.{first, may_be_empty}
use Rattle.grammars.specs.Checked.{is_fit, begins_closed, IsChecked}
use Rattle.program_text.specs.Lexemes.{Lexeme}
use Rattle.program_text.specs.Kinds.{Kind, a_name, a_number, a_large, an_item, an_end, no_kind, a_sign, a_double, a_keyword, same_keyword, same_double, same, sample}
use Rattle.program_text.specs.Sums.{SumContext, SumState, SumRule, Rule, a_sum, a_factor, a_divisor, divisor_token, divisor_by, sum_language, rule_says, may_follow, begins_sum}
use Rattle.program_text.specs.Words as words
use Rattle.loop_model.specs.Words as loop_words

keyword_same : (k : Keyword) → same_keyword k k ≡ true
keyword_same vars_word = refl
keyword_same if_word = refl
keyword_same else_word = refl
keyword_same while_word = refl
keyword_same for_word = refl
keyword_same assume_word = refl
keyword_same assert_word = refl
keyword_same any_word = refl
keyword_same unknown_word = refl
keyword_same loop_word = refl

keyword_exact : (j k : Keyword) → same_keyword j k ≡ true → j ≡ k
keyword_exact vars_word vars_word e = refl
keyword_exact if_word if_word e = refl
keyword_exact else_word else_word e = refl
keyword_exact while_word while_word e = refl
keyword_exact for_word for_word e = refl
keyword_exact assume_word assume_word e = refl
keyword_exact assert_word assert_word e = refl
keyword_exact any_word any_word e = refl
keyword_exact unknown_word unknown_word e = refl
keyword_exact loop_word loop_word e = refl
keyword_exact j k e = absurd (cc)

double_same : (d : Double) → same_double d d ≡ true
double_same equal = refl
double_same differs = refl
double_same dots = refl

double_exact : (c d : Double) → same_double c d ≡ true → c ≡ d
double_exact equal equal e = refl
double_exact differs differs e = refl
double_exact dots dots e = refl
double_exact c d e = absurd (cc)

kind_same : (k : Kind) → same k k ≡ true
kind_same a_name = refl
kind_same a_number = refl
kind_same a_large = refl
kind_same an_item = refl
kind_same an_end = refl
kind_same no_kind = refl
kind_same (a_sign c) = eqb_same c
kind_same (a_double d) = double_same d
kind_same (a_keyword k) = keyword_same k

kind_exact : (j k : Kind) → same j k ≡ true → j ≡ k
kind_exact a_name a_name e = refl
kind_exact a_number a_number e = refl
kind_exact a_large a_large e = refl
kind_exact an_item an_item e = refl
kind_exact an_end an_end e = refl
kind_exact no_kind no_kind e = refl
kind_exact (a_sign b) (a_sign c) e = ap a_sign (eqb-true b c e)
kind_exact (a_double c) (a_double d) e = ap a_double (double_exact c d e)
kind_exact (a_keyword j) (a_keyword k) e = ap a_keyword (keyword_exact j k e)
kind_exact j k e = absurd (cc)

pub kinds_exact : IsExact same
kinds_exact = record { reflexive = kind_same; exact = kind_exact }

pub by_free : (P : Rule → Type 0) → P divisor_token → P (divisor_by true) → (b : Bool)
    → P (divisor_by b)
by_free P number factor true = factor
by_free P number factor false = number

fit : (n : SumRule) (c : SumContext) → is_fit sum_language (rule_says n c) (may_follow n) ≡ true
unfolding words.keyword_of loop_words.keyword_of
fit a_sum c = refl
fit a_factor c = refl
fit a_divisor c = by_free (λ g. is_fit sum_language g (may_follow a_divisor) ≡ true) refl refl
    c.free

closed : (n : SumRule) (c : SumContext) → begins_closed sum_language (rule_says n c) ≡ true
closed a_sum c = refl
closed a_factor c = refl
closed a_divisor c = by_free (λ g. begins_closed sum_language g ≡ true) refl refl c.free

begin : (n : SumRule) (c : SumContext) → within same (first sum_language (rule_says n c)) begins_sum
    ≡ true
begin a_sum c = refl
begin a_factor c = refl
begin a_divisor c = by_free (λ g. within same (first sum_language g) begins_sum ≡ true) refl refl
    c.free

full : (n : SumRule) (c : SumContext) → may_be_empty sum_language (rule_says n c) ≡ true
    → false ≡ true
full a_sum c e = e
full a_factor c e = e
full a_divisor c e = by_free (λ g. may_be_empty sum_language g ≡ true → false ≡ true) (λ e. e)
    (λ e. e) c.free e

-- a number
text : (n : SumRule) (s : SumState) (gs : List Rule) → ((t : SumState) → Text sum_language gs t)
    → Text sum_language (rule n ∷ gs) s
text a_sum s gs later =
    let number : Placed Lexeme = record { at = 0; lexeme = sample a_number } in
    record {
      marks = _;
      end = _;
      derivation =
          derives_rule
          (derives_sequence
          (derives_sequence
          (derives_left (derives_sequence (derives_left (derives_token {x = number} refl
          (derives_right (derives_change (derives_none (derives_none (later _).derivation))))))))));
    }
text a_factor s gs later =
    let number : Placed Lexeme = record { at = 0; lexeme = sample a_number } in
    record {
      marks = _;
      end = _;
      derivation =
          derives_rule
          (derives_left
          (derives_sequence
          (derives_left (derives_token {x = number} refl
          (derives_right (derives_change (later _).derivation))))));
    }
text a_divisor s gs later =
    let number : Placed Lexeme = record { at = 0; lexeme = sample a_number } in
    by_divisor (by_free (λ g. Text sum_language (g ∷ gs) s) (record {
      marks = _;
      end = _;
      derivation = derives_token {x = number} refl (later _).derivation;
    }) (record {
      marks = _;
      end = _;
      derivation = derives_left (derives_token {x = number} refl (later _).derivation);
    }) s.context.free)
  where
    by_divisor : Text sum_language (divisor_by s.context.free ∷ gs) s
        → Text sum_language (rule a_divisor ∷ gs) s
    by_divisor t = record { marks = t.marks; end = t.end; derivation = derives_rule t.derivation }

pub sums_checked : IsChecked sum_language
sums_checked = record {
  kinds = kinds_exact;
  fit = fit;
  closed = closed;
  begins = begin;
  empty = full;
  text = text;
}

exact : (n : SumRule) (c : SumContext) → within same begins_sum (first sum_language (rule_says n c))
    ≡ true
exact a_sum c = refl
exact a_factor c = refl
exact a_divisor c = by_free (λ g. within same begins_sum (first sum_language g) ≡ true) refl refl
    c.free
