-- The grammar of chains is checked: the next token tells which way to go. The language of loops is embedded in it.
--   loops_embedded    so it is
--   chains_checked    the language's rules; chain_whole: a whole chain
use Rattle.std.proofs.Common.{◌≡◌, ℕ, List, [], ◌∷◌, ◌++◌, length, refl, Bool, true, false, nat_lt}
use Rattle.loop_model.specs.Words as words
use Rattle.grammars.specs.Kinds.{within}
use Rattle.grammars.specs.Grammar.{rule}
use Rattle.grammars.specs.Derivation.{Derives, derives_nothing, Text}
use Rattle.grammars.specs.Embedded.{IsEmbedded, part}
use Rattle.grammars.specs.First.{first, may_be_empty}
use Rattle.grammars.specs.Checked.{is_fit, begins_closed, IsChecked, IsWhole}
use Rattle.poly_text.specs.Kinds.{same}
use Rattle.poly_text.specs.Sums.{a_sum, a_factor}
use Rattle.poly_text.proofs.SumChecked.{kinds_exact}
use Rattle.loop_text.specs.Loops as loops
use Rattle.loop_text.specs.Loops.{LoopState, LoopRule, of_sums, more_values, more_if, another_value, rule_begins, may_follow, may_be_none, loop_language}
use Rattle.loop_text.proofs.LoopChecked.{loops_checked}
use Rattle.loop_text.specs.Chains.{Earlier, ChainContext, ChainState, Rule, loops_in_chains, chain_language, whole_chain}
use Rattle.loop_text.proofs.Raised.{Marks, up, at, raised}

pub loops_embedded : IsEmbedded loops_in_chains loop_language chain_language
loops_embedded = record {
  get_put = λ d c. refl;
  put_put = λ d e c. refl;
  put_get = λ c. refl;
  value_get_put = λ w v. refl;
  value_put_put = λ w x v. refl;
  value_put_get = λ v. refl;
  kinds = λ ks y. refl;
  says = λ n c. refl;
  begins = λ n. refl;
  empty = λ n. refl;
}

pub by_more : (P : Rule → Type 0) → P (up another_value) → P (up (more_if false)) → (b : Bool)
    → P (up (more_if b))
by_more P more none true = more
by_more P more none false = none

-- what the rule n says is g
record Fits (n : LoopRule) (g : Rule) : Type 0 where
  fit : is_fit chain_language g (may_follow n) ≡ true
  closed : begins_closed chain_language g ≡ true
  begins : within same (first chain_language g) (rule_begins n) ≡ true

fits : (n : LoopRule) (c : ChainContext) → Fits n (up (loops.rule_says n c.loop))
unfolding words.keyword_of
fits (of_sums a_sum) c = record { fit = refl; closed = refl; begins = refl }
fits (of_sums a_factor) c = record { fit = refl; closed = refl; begins = refl }
fits more_values c = by_more (Fits more_values) (record {
  fit = refl;
  closed = refl;
  begins = refl;
}) (record { fit = refl; closed = refl; begins = refl })
    (nat_lt c.loop.values (length c.loop.targets))

full : (n : LoopRule) (c : ChainContext)
    → may_be_empty chain_language (up (loops.rule_says n c.loop)) ≡ true → may_be_none n ≡ true
full (of_sums a_sum) c e = e
full (of_sums a_factor) c e = e
full more_values c e = refl

pub chain_whole : IsWhole chain_language whole_chain
unfolding words.keyword_of
chain_whole = record { fit = refl; ends = refl }

-- ---- each rule has a text: that which it has in the language of loops
behind_nothing : (gs : List Rule) (n : ℕ) (before : Earlier)
    (u : LoopState) (w : ChainState) (ns : Marks) → Derives chain_language gs (at n before u) ns w
    → (s : LoopState) (ms : Marks) → Derives loop_language [] s ms u
    → Derives chain_language gs (at n before s) (ms ++ ns) w
behind_nothing gs n before u w ns d _ _ derives_nothing = d

text : (n : LoopRule) (s : ChainState) (gs : List Rule)
    → ((t : ChainState) → Text chain_language gs t) → Text chain_language (rule n ∷ gs) s
text n s gs later =
    let small : Text loop_language (rule n ∷ []) (part loops_in_chains s) =
    loops_checked.text n (part loops_in_chains s) []
    (λ t. record { marks = []; end = t; derivation = derives_nothing }) in
    let behind = later (at s.context.loops s.value.before small.end) in
    record {
      marks = small.marks ++ behind.marks;
      end = behind.end;
      derivation = raised s.context.loops s.value.before [] gs small.end behind.end behind.marks
          (λ t ms d. behind_nothing gs s.context.loops s.value.before small.end behind.end
          behind.marks behind.derivation t ms d) (rule n ∷ []) (part loops_in_chains s)
          small.marks small.derivation;
    }

pub chains_checked : IsChecked chain_language
chains_checked = record {
  kinds = kinds_exact;
  fit = λ n c. (fits n c).fit;
  closed = λ n c. (fits n c).closed;
  begins = λ n c. (fits n c).begins;
  empty = full;
  text = text;
}
