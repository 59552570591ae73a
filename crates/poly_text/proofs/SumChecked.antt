-- The grammar of sums is checked: the next token tells which way to go. Each text of a sum or an equation has the lexemes of some bytes.
--   kinds_exact        the test whether two kinds are the same decides it
--   sum_leads          the place where a sum ends by the one where it begins: it stands outside of guards alone
use Rattle.std.proofs.Common.{ap, ◌≡◌, List, ◌∷◌, refl, true, false, Option, Some, None}
use Rattle.std.proofs.lemmas.Bool.{eqb-true}
use Rattle.algebra.proofs.Basics.{eqb_same}
use Rattle.loop_model.specs.Words.{Keyword, vars_word, init_word, branch_word, when_word}
use Rattle.grammars.specs.Kinds.{IsExact, within}
use Rattle.grammars.specs.Grammar.{Placed, rule}
use Rattle.grammars.specs.Derivation.{derives_token, derives_change, derives_sequence, derives_left, derives_right, derives_none, derives_rule, Text}
use Rattle.grammars.specs.First.{first, may_be_empty}
use Rattle.grammars.specs.Checked.{is_fit, begins_closed, IsChecked, IsWhole}
use Rattle.poly_text.specs.Lexemes.{Lexeme, tokens}
use Rattle.poly_text.specs.Kinds.{Kind, a_name, a_number, a_large, an_item, an_end, no_kind, a_sign, a_keyword, same_keyword, same, sample}
use Rattle.poly_text.specs.Sums.{SumContext, SumState, SumRule, Rule, a_sum, a_factor, sum_language, rule_says, may_follow, begins_sum, whole_sum, whole_equation}
use Rattle.grammars.specs.Spelled.{AreSpelled}
use Rattle.grammars.specs.Parts.{BeginsExactly}
use Rattle.grammars.proofs.Automata.{leads}
use Rattle.poly_text.proofs.LexemeRuns.{Place, outside, guarded, behind, moves, alike, texts_spelled}
use Rattle.loop_model.specs.Words as words

keyword_same : (k : Keyword) → same_keyword k k ≡ true
keyword_same vars_word = refl
keyword_same init_word = refl
keyword_same branch_word = refl
keyword_same when_word = refl

keyword_exact : (j k : Keyword) → same_keyword j k ≡ true → j ≡ k
keyword_exact vars_word vars_word e = refl
keyword_exact init_word init_word e = refl
keyword_exact branch_word branch_word e = refl
keyword_exact when_word when_word e = refl
keyword_exact j k e = absurd (cc)

kind_same : (k : Kind) → same k k ≡ true
kind_same a_name = refl
kind_same a_number = refl
kind_same a_large = refl
kind_same an_item = refl
kind_same an_end = refl
kind_same no_kind = refl
kind_same (a_sign c) = eqb_same c
kind_same (a_keyword k) = keyword_same k

kind_exact : (j k : Kind) → same j k ≡ true → j ≡ k
kind_exact a_name a_name e = refl
kind_exact a_number a_number e = refl
kind_exact a_large a_large e = refl
kind_exact an_item an_item e = refl
kind_exact an_end an_end e = refl
kind_exact no_kind no_kind e = refl
kind_exact (a_sign b) (a_sign c) e = ap a_sign (eqb-true b c e)
kind_exact (a_keyword j) (a_keyword k) e = ap a_keyword (keyword_exact j k e)
kind_exact j k e = absurd (cc)

pub kinds_exact : IsExact same
kinds_exact = record { reflexive = kind_same; exact = kind_exact }

fit : (n : SumRule) (c : SumContext) → is_fit sum_language (rule_says n c) (may_follow n) ≡ true
unfolding words.keyword_of
fit a_sum c = refl
fit a_factor c = refl

closed : (n : SumRule) (c : SumContext) → begins_closed sum_language (rule_says n c) ≡ true
closed a_sum c = refl
closed a_factor c = refl

begin : (n : SumRule) (c : SumContext) → within same (first sum_language (rule_says n c)) begins_sum
    ≡ true
begin a_sum c = refl
begin a_factor c = refl

full : (n : SumRule) (c : SumContext) → may_be_empty sum_language (rule_says n c) ≡ true
    → false ≡ true
full a_sum c e = e
full a_factor c e = e

-- a number
text : (n : SumRule) (s : SumState) (gs : List Rule) → ((t : SumState) → Text sum_language gs t)
    → Text sum_language (rule n ∷ gs) s
text a_sum s gs later =
    let number : Placed Lexeme = record { at = 0; lexeme = sample a_number } in
    record {
      marks = _;
      end = _;
      derivation =
          derives_rule
          (derives_sequence
          (derives_sequence
          (derives_left (derives_sequence (derives_left (derives_token {x = number} refl
          (derives_right (derives_change (derives_none (derives_none (later _).derivation))))))))));
    }
text a_factor s gs later =
    let number : Placed Lexeme = record { at = 0; lexeme = sample a_number } in
    record {
      marks = _;
      end = _;
      derivation =
          derives_rule
          (derives_left
          (derives_sequence
          (derives_left (derives_token {x = number} refl
          (derives_right (derives_change (later _).derivation))))));
    }

pub sums_checked : IsChecked sum_language
sums_checked = record {
  kinds = kinds_exact;
  fit = fit;
  closed = closed;
  begins = begin;
  empty = full;
  text = text;
}

exact : (n : SumRule) (c : SumContext) → within same begins_sum (first sum_language (rule_says n c))
    ≡ true
exact a_sum c = refl
exact a_factor c = refl

pub sums_begin_exactly : BeginsExactly sum_language
sums_begin_exactly = record { begins = exact; empty = λ n c e. absurd (cc) }

pub sum_whole : IsWhole sum_language whole_sum
unfolding words.keyword_of
sum_whole = record { fit = refl; ends = refl }

pub equation_whole : IsWhole sum_language whole_equation
unfolding words.keyword_of
equation_whole = record { fit = refl; ends = refl }

-- no guard stands in a sum
abbrev pub sum_leads : Place → Option Place
sum_leads outside = Some outside
sum_leads guarded = None
sum_leads behind = None

rules_lead : (n : SumRule) (c : SumContext) (p q : Place) → sum_leads p ≡ Some q
    → leads sum_language moves alike (λ n. sum_leads) (rule_says n c) p ≡ Some q
rules_lead a_sum c outside q e = e
rules_lead a_factor c outside q e = e
rules_lead n c guarded q e = absurd (cc)
rules_lead n c behind q e = absurd (cc)

pub sums_spelled : (s : SumState) → AreSpelled sum_language whole_sum s tokens
sums_spelled s = texts_spelled sum_language (λ n. sum_leads) kinds_exact (λ x. refl) rules_lead
    whole_sum refl s

pub equations_spelled : (s : SumState) → AreSpelled sum_language whole_equation s tokens
equations_spelled s = texts_spelled sum_language (λ n. sum_leads) kinds_exact (λ x. refl) rules_lead
    whole_equation refl s
