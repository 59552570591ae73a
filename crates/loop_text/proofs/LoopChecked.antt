-- The grammar of loops is checked: the next token tells which way to go. The language of sums is embedded in it.
--   sums_embedded    so it is
--   by_more          what holds with a right side to come and without one
--   loops_checked    the language's rules; loop_whole: a whole loop
use Rattle.std.proofs.Common.{◌≡◌, ℕ, zero, suc, ◌+◌, ◌≤◌, List, ◌∷◌, length, refl, sym, subst, Bool, true, false, nat_lt, pos, arith}
use Rattle.std.proofs.lemmas.Bool.Decides.{nat_tests}
use Rattle.loops.specs.Program.{number}
use Rattle.loop_model.specs.Words as words
use Rattle.grammars.specs.Kinds.{within}
use Rattle.grammars.specs.Grammar.{Placed, change, rule, after_change}
use Rattle.grammars.specs.Derivation.{derives_token, derives_change, derives_sequence, derives_left, derives_right, derives_none, derives_rule, Text}
use Rattle.grammars.specs.Embedded.{IsEmbedded}
use Rattle.grammars.specs.First.{first, may_be_empty}
use Rattle.grammars.specs.Checked.{is_fit, begins_closed, IsChecked, IsWhole}
use Rattle.poly_text.specs.Lexemes.{Lexeme}
use Rattle.poly_text.specs.Kinds.{a_number, a_sign, same, sample}
use Rattle.poly_text.specs.Sums.{a_sum, a_factor, sum_language, push}
use Rattle.poly_text.proofs.SumChecked.{kinds_exact}
use Rattle.loop_text.specs.Loops.{LoopContext, LoopState, LoopRule, Rule, of_sums, more_values, end_value, with_value, sums_in_loops, more_if, another_value, rule_says, rule_begins, may_follow, may_be_none, loop_language, whole_loop}

pub sums_embedded : IsEmbedded sums_in_loops sum_language loop_language
sums_embedded = record {
  get_put = λ d c. refl;
  put_put = λ d e c. refl;
  put_get = λ c. refl;
  value_get_put = λ w v. refl;
  value_put_put = λ w x v. refl;
  value_put_get = λ v. refl;
  kinds = λ ks y. refl;
  says = λ n c. refl;
  begins = λ n. refl;
  empty = λ n. refl;
}

pub by_more : (P : Rule → Type 0) → P another_value → P (more_if false) → (b : Bool) → P (more_if b)
by_more P more none true = more
by_more P more none false = none

-- what the rule n says is g
record Fits (n : LoopRule) (g : Rule) : Type 0 where
  fit : is_fit loop_language g (may_follow n) ≡ true
  closed : begins_closed loop_language g ≡ true
  begins : within same (first loop_language g) (rule_begins n) ≡ true

fits : (n : LoopRule) (c : LoopContext) → Fits n (rule_says n c)
unfolding words.keyword_of
fits (of_sums a_sum) c = record { fit = refl; closed = refl; begins = refl }
fits (of_sums a_factor) c = record { fit = refl; closed = refl; begins = refl }
fits more_values c = by_more (Fits more_values) (record {
  fit = refl;
  closed = refl;
  begins = refl;
}) (record { fit = refl; closed = refl; begins = refl })
    (nat_lt c.values (length c.targets))

full : (n : LoopRule) (c : LoopContext) → may_be_empty loop_language (rule_says n c) ≡ true
    → may_be_none n ≡ true
full (of_sums a_sum) c e = e
full (of_sums a_factor) c e = e
full more_values c e = refl

pub loop_whole : IsWhole loop_language whole_loop
unfolding words.keyword_of
loop_whole = record { fit = refl; ends = refl }

-- ---- each rule has a text: the number 1 is a factor and a sum
abbrev after_one : LoopState → LoopState
after_one s = record s { value = record s.value { sum = push (number (pos 1)) s.value.sum } }

abbrev after_value : LoopState → LoopState
after_value s = after_change end_value with_value (after_one s)

abbrev HasText : List Rule → LoopState → Type 0
HasText gs s = Text loop_language gs s

abbrev one : Placed Lexeme
one = record { at = 0; lexeme = sample a_number }

module _ (gs : List Rule) where
  sum_text : (s : LoopState) → HasText gs (after_one s) → HasText (rule (of_sums a_sum) ∷ gs) s
  sum_text s later =
      record {
        marks = _;
        end = later.end;
        derivation =
            derives_rule
            (derives_sequence
            (derives_sequence
            (derives_left
            (derives_sequence
            (derives_left (derives_token {x = one} refl
            (derives_right
            (derives_change (derives_none (derives_none later.derivation))))))))));
      }

  factor_text : (s : LoopState) → HasText gs (after_one s) → HasText (rule (of_sums a_factor) ∷ gs)
      s
  factor_text s later = record {
    marks = _;
    end = later.end;
    derivation =
        derives_rule
        (derives_left
        (derives_sequence
        (derives_left (derives_token {x = one} refl
        (derives_right (derives_change later.derivation))))));
  }

-- ---- as many right sides as targets
module _ (gs : List Rule) (later : (t : LoopState) → HasText gs t) where
  by_test : (s : LoopState) → HasText (more_if (nat_lt s.context.values (length s.context.targets))
      ∷ gs) s → HasText (rule more_values ∷ gs) s
  by_test s text = record {
    marks = text.marks;
    end = text.end;
    derivation = derives_rule text.derivation;
  }

  enough : (s : LoopState) → HasText (more_if false ∷ gs) s
  enough s = record {
    marks = (later s).marks;
    end = (later s).end;
    derivation = derives_change (later s).derivation;
  }

  another : (s : LoopState) → HasText (rule more_values ∷ gs) (after_value s)
      → HasText (another_value ∷ gs) s
  another s more =
      let comma : Placed Lexeme = record { at = 0; lexeme = sample (a_sign 44) } in
      let value = sum_text (change end_value with_value ∷ rule more_values ∷ gs) s
      (record {
        marks = more.marks;
        end = more.end;
        derivation = derives_change more.derivation;
      }) in
      record {
        marks = _;
        end = value.end;
        derivation =
            derives_sequence (derives_token {x = comma} refl
            (derives_sequence (derives_sequence value.derivation)));
      }

  -- with at most k to come
  values_text : (k : ℕ) (s : LoopState) → length s.context.targets ≤ s.context.values + k
      → HasText (rule more_values ∷ gs) s
  values_text zero s e = let none : nat_lt s.context.values (length s.context.targets) ≡ false =
      grind (arith, nat_tests) in by_test s (subst (λ b. HasText (more_if b ∷ gs) s) (sym none)
      (enough s))
  values_text (suc k) s e =
      by_test s (by_more (λ g. HasText (g ∷ gs) s)
      (another s (values_text k (after_value s) (omega arith))) (enough s)
      (nat_lt s.context.values (length s.context.targets)))

text : (n : LoopRule) (s : LoopState) (gs : List Rule) → ((t : LoopState) → HasText gs t)
    → HasText (rule n ∷ gs) s
text (of_sums a_sum) s gs later = sum_text gs s (later (after_one s))
text (of_sums a_factor) s gs later = factor_text gs s (later (after_one s))
text more_values s gs later = values_text gs later (length s.context.targets) s (omega arith)

pub loops_checked : IsChecked loop_language
loops_checked = record {
  kinds = kinds_exact;
  fit = λ n c. (fits n c).fit;
  closed = λ n c. (fits n c).closed;
  begins = λ n c. (fits n c).begins;
  empty = full;
  text = text;
}
