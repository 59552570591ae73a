-- What is read as a chain is well formed, loop by loop, by what holds at each place of its text.
--   Place             first a: at the place a of the first loop's text, before its branches; further a: at the place a of a loop's branches; due: behind `then`
--   AreGood, IsGoodCode    code whose statements are well formed and few, and set local names before they use them
--   Ahead, Behind, Holds      what holds of the state besides what holds of the open loop: nothing was read before, or each loop before is well formed, and the code
--   first_leads, further_leads     the grammar of loops leads in chains as it does in loops
--   Keeps the_shell   a grammar keeps the names and the equations of init
--   chain_well        so each loop of a chain that was read is well formed and within the limits of loops, and there are at most as many as may be
use Rattle.std.proofs.Common.{◌≡◌, ℕ, zero, suc, ◌+◌, ◌<◌, ◌≤◌, List, [], ◌∷◌, ◌++◌, length, sum_by, get_or, refl, sym, ap, subst, arith, All, Bool, true, false, None, Ok, nat_le, nat_lt, if◌then◌else◌, Option, Some}
use Rattle.std.specs.Prelude.{codes}
use Rattle.std.specs.Str.{bytes_eq}
use Rattle.std.proofs.lemmas.List.{length_push}
use Rattle.std.proofs.lemmas.List.Elements.{All-nil, All-push, All-head, All-tail, All-weaker}
use Rattle.std.proofs.lemmas.List.Sums.{sum_by-cons}
use Rattle.loops.specs.Program.{Expr, Program, Statement}
use Rattle.loops.specs.Limits.{most_branches, most_statements, IsSmall}
use Rattle.loops.specs.WellFormed.{AreDistinct, IsStatement, SetsFirst, local_places}
use Rattle.loop_text.proofs.LocalPlaces.{sets_none}
use Rattle.grammars.specs.Grammar.{token, change, sequence, either, many, rule, some, after_token}
use Rattle.grammars.specs.Embedded.{lift, part, with_part}
use Rattle.grammars.proofs.Kept.{Keeps, Leads, Opens, places_kept}
use Rattle.poly_text.specs.Lexemes.{tokens}
use Rattle.poly_text.specs.Kinds.{word_in}
use Rattle.poly_text.specs.Reasons.{Reason, syntax, limit, unless}
use Rattle.poly_text.specs.Sums.{SumRule, a_sum, a_factor}
use Rattle.poly_text.proofs.SumKept.{at_most}
use Rattle.loop_text.specs.Loops as loops
use Rattle.loop_text.specs.Loops.{LoopRule, LoopState, of_sums, more_values, more_if, loop_language, nothing, branch, init, names, loop}
use Rattle.loop_text.specs.LoopReader.{program_in}
use Rattle.loop_text.proofs.HeldAtPlaces as places
use Rattle.loop_text.proofs.WellFormed as leads
use Rattle.loop_text.proofs.HeldAtPlaces.{IsGood, early, named, starting, outside, done, inside, init_step, no_init_step, init_end_step, branch_step}
use Rattle.loop_text.proofs.WellFormed.{IsReadWell, names_lead, locals_lead, start_leads, block_leads, branches_lead, opens, well_of, nothing_read}
use Rattle.loops.specs.Chain.{Chain, Stage, no_stage, loop_of, loop_at}
use Rattle.loop_runs.specs.Limits.{most_loops}
use Rattle.loop_runs.specs.Parts.{IsLoop}
use Rattle.loop_text.specs.Chains.{Earlier, ChainState, Rule, none_before, loops_in_chains, then_fault, begin_loop, begin_code, end_code, with_loop, taken_code, the_loop, code as code_rule, stage, further as further_loop, chain, whole_chain, chain_language, chain_nothing}
use Rattle.loop_text.specs.ChainReader.{of_stages, chain_in, chain_of}
use Rattle.loop_text.proofs.ChainLaws.{chain_read}

abbrev Loop : Type 0
Loop = List (List (Statement (Expr ℕ)))

-- the loop with these branches, and the names and the start of the program
abbrev with_branches : Program (Expr ℕ) → Loop → Program (Expr ℕ)
with_branches program bs = record program { branches = bs }

-- ---- what the grammar of branches keeps
abbrev shell : LoopState → Program (Expr ℕ)
shell s = with_branches (program_in s) []

abbrev KeepsShell : loops.Rule → Type 0
KeepsShell g = (p : Program (Expr ℕ)) → Keeps loop_language (λ s. shell s ≡ p) g

both : {A B : Type 0} → A → B → A × B
both a b = (a, b)

module _ (p : Program (Expr ℕ)) where
  abbrev K : loops.Rule → Type 0
  K g = Keeps loop_language (λ s. shell s ≡ p) g

  abbrev up_sum : SumRule → loops.Rule
  up_sum n = loops.rule_says (of_sums n) nothing.context

  factor_keeps : K (up_sum a_factor)
  factor_keeps =
      both
      (both (both (λ s x q k e. q)
      (both (λ s x q k e. q) (both (λ s x q k e. q) (both tt (λ s x q k e. q)))))
      (both (both (λ s x q k e. q) (λ s x q k e. q)) (λ s q. q)))
      (both (λ s x q k e. q) (both tt (λ s q. q)))

  sum_keeps : K (up_sum a_sum)
  sum_keeps =
      both
      (both factor_keeps (both (both (λ s x q k e. q) (both tt (λ s q. q))) (both (λ s x q k e. q)
      (λ s x q k e. q))))
      (both
      (both (λ s x q k e. q)
      (both (both factor_keeps (both (both (λ s x q k e. q) (both tt (λ s q. q)))
      (both (λ s x q k e. q) (λ s x q k e. q)))) (λ s q. q)))
      (both (λ s x q k e. q)
      (both (both factor_keeps (both (both (λ s x q k e. q) (both tt (λ s q. q)))
      (both (λ s x q k e. q) (λ s x q k e. q)))) (λ s q. q))))

  side_keeps : K loops.right_side
  side_keeps = both tt (λ s q. q)

  more_keeps : (b : Bool) → K (more_if b)
  more_keeps true = both (λ s x q k e. q) (both side_keeps tt)
  more_keeps false = λ s q. q

  statement_keeps : K loops.statement
  statement_keeps =
      both
      (both (λ s x q k e. q) (both (λ s x q k e. q) (both side_keeps (λ s x q k e. q))))
      (both (λ s x q k e. q)
      (both (both (λ s x q k e. q)
      (both (λ s x q k e. q)
      (both (both (λ s x q k e. q) (both (λ s x q k e. q) (λ s x q k e. q))) (λ s x q k e.
      q))))
      (both (both (λ s x q k e. q)
      (both (λ s x q k e. q) (both side_keeps (both tt (λ s x q k e. q))))) (λ s x q k e.
      q))))

  head_keeps : K loops.head
  head_keeps = both (both (both (λ s x q k e. q) (both (λ s x q k e. q) (λ s x q k e. q)))
      (λ s x q k e. q)) (λ s x q k e. q)

  branch_keeps : K branch
  branch_keeps = both (λ s x q k e. q) (both head_keeps (both statement_keeps (λ s x q k e. q)))

  branches_keep : K (some branch)
  branches_keep = both branch_keeps branch_keeps

  rules_keep : (n : LoopRule) (c : loops.LoopContext) → K (loops.rule_says n c)
  rules_keep (of_sums a_sum) c = sum_keeps
  rules_keep (of_sums a_factor) c = factor_keeps
  rules_keep more_values c = more_keeps (nat_lt c.values (length c.targets))

-- ---- places
pub data Place : Type 0 where
  first further : places.Place → Place
  due : Place

abbrev here : ChainState → LoopState
here s = part loops_in_chains s

pub record Counts (s : ChainState) : Type 0 where
  pub count : s.context.loops ≡ suc (length s.value.before.stages)
  pub few : s.context.loops ≤ most_loops

-- over m variables and k local names
pub record AreGood (m k : ℕ) (code : List (Statement (Expr ℕ))) : Type 0 where
  pub good : All (IsGood (m + k)) code
  pub sets : SetsFirst (local_places m k) code
  pub few : length code ≤ most_statements

abbrev pub IsGoodCode : Program (Expr ℕ) → List (Statement (Expr ℕ)) → Type 0
IsGoodCode p code = AreGood (length p.names) (length p.locals) code

abbrev IsGoodStage : Program (Expr ℕ) → Stage (Expr ℕ) → Type 0
IsGoodStage p g = IsReadWell (with_branches p g.branches) × IsGoodCode p g.code

abbrev Goods : Program (Expr ℕ) → List (Stage (Expr ℕ)) → Type 0
Goods p stages = All (IsGoodStage p) stages

pub record Behind (s : ChainState) : Type 0 where
  pub counts : Counts s
  pub goods : Goods (shell (here s)) s.value.before.stages
  pub code : IsGoodCode (shell (here s)) s.value.before.code

pub record Ahead (s : ChainState) : Type 0 where
  pub counts : Counts s
  pub none : s.value.before ≡ none_before

abbrev pub Holds : Place → ChainState → Type 0
Holds (first a) s = places.Holds a (here s) × Ahead s
Holds (further a) s = places.Holds a (here s) × Behind s
Holds due s = (places.Holds outside (here s) × (s.context.loop.branches ≡ 0)) × Behind s

abbrev pub Called : LoopRule → Place → Place → Type 0
Called n (first a) (first b) = leads.Called n a b
Called n (first a) (further b) = ⊥
Called n (first a) due = ⊥
Called n (further a) (first b) = ⊥
Called n (further a) (further b) = leads.Called n a b
Called n (further a) due = ⊥
Called n due b = ⊥

abbrev To : Place → Rule → Place → Type 0
To a g b = Leads chain_language Holds Called a g b

abbrev up : loops.Rule → Rule
up g = lift loops_in_chains g

-- the loop in a state, and what is told of those before
ahead_with : (s : ChainState) (t : LoopState) → Ahead s → Ahead (with_part loops_in_chains t s)
ahead_with s t a = record {
  counts = record { count = a.counts.count; few = a.counts.few };
  none = a.none;
}

behind_with : (s : ChainState) (t : LoopState) → shell t ≡ shell (here s) → Behind s
    → Behind (with_part loops_in_chains t s)
behind_with s t same b = record {
  counts = record { count = b.counts.count; few = b.counts.few };
  goods = subst (λ p. Goods p s.value.before.stages) (sym same) b.goods;
  code = subst (λ p. IsGoodCode p s.value.before.code) (sym same) b.code;
}

first_leads : (a b : places.Place) (g : loops.Rule) → leads.To a g b
    → To (first a) (up g) (first b)
first_leads a b (token ks fault next build) l = λ s x h k e.
    (l (here s) x h.0 k e, ahead_with s (after_token next build (here s) x) h.1)
first_leads a b (change next build) l = λ s h. (l (here s) h.0, ahead_with s _ h.1)
first_leads a b (sequence g h) l =
    (first l.0, (first_leads a l.0 g l.1.0, first_leads l.0 b h l.1.1))
first_leads a b (either g h) l = (first_leads a b g l.0, first_leads a b h l.1)
first_leads a b (many g) l = (first_leads a a g l.0, (λ s h. (l.1 (here s) h.0, h.1)))
first_leads a b (rule n) l = l

further_leads : (a b : places.Place) (g : loops.Rule) → leads.To a g b → KeepsShell g
    → To (further a) (up g) (further b)
further_leads a b (token ks fault next build) l keeps = λ s x h k e. (
  l (here s) x h.0 k e,
  behind_with s (after_token next build (here s) x)
      (keeps (shell (here s)) (here s) x refl k e) h.1,
)
further_leads a b (change next build) l keeps =
    λ s h. (l (here s) h.0, behind_with s _ (keeps (shell (here s)) (here s) refl) h.1)
further_leads a b (sequence g h) l keeps = (
  further l.0,
  (further_leads a l.0 g l.1.0 (λ p. (keeps p).0), further_leads l.0 b h l.1.1 (λ p. (keeps p).1)),
)
further_leads a b (either g h) l keeps = (
  further_leads a b g l.0 (λ p. (keeps p).0),
  further_leads a b h l.1 (λ p. (keeps p).1),
)
further_leads a b (many g) l keeps = (
  further_leads a a g l.0 keeps,
  (λ s h. (l.1 (here s) h.0, h.1)),
)
further_leads a b (rule n) l keeps = l

-- ---- the grammar of chains
via : {X Z : Place → Type 0} (b : Place) → X b → Z b → (b : Place) × (X b × Z b)
via b x z = (b, (x, z))

no_code : (p : Program (Expr ℕ)) → IsGoodCode p []
no_code p = record {
  good = All-nil _;
  sets = sets_none (local_places (length p.names) (length p.locals));
  few = omega arith;
}

-- no loop was read before the branches of the first
begins : (s : ChainState) → Ahead s → Behind s
begins s a = record {
  counts = a.counts;
  goods = subst (λ (e : Earlier). Goods (shell (here s)) e.stages) (sym a.none) (All-nil _);
  code = subst (λ (e : Earlier). IsGoodCode (shell (here s)) e.code) (sym a.none)
      (no_code (shell (here s)));
}

init_leads : To (first named) (up init) (further outside)
init_leads =
    via (first starting) (λ s x h k e. (init_step (here s) h.0, h.1)) (via (first starting)
    (via (first starting) (first_leads starting starting loops.start start_leads) (
      via (first starting) (λ s x h k e. h) (first_leads starting starting loops.start
          start_leads),
      (λ s h. h),
    ))
    (λ s x h k e. (init_end_step (here s) h.0, begins _ (ahead_with s _ h.1))))

loop_leads : To (first early) the_loop (further done)
loop_leads =
    via (first named) (first_leads early named names names_lead)
    (via (first named) (first_leads named named loops.locals locals_lead, (λ s h. h))
    (via (further outside) (init_leads, (λ s h. (no_init_step (here s) h.0, begins s h.1)))
    (further_leads outside done (some branch) branches_lead branches_keep)))

-- a further loop begins
no_other : (b : Bool) (o : Option Reason) → (if b then o else Some syntax) ≡ None → o ≡ None
no_other true o e = e
no_other false o e = absurd (cc)

then_step : (s : ChainState) (w : List ℕ) → Holds (further done) s → then_fault s.context w ≡ None
    → Holds due (record { context = begin_loop s.context; value = with_loop s.value })
then_step s w h e =
    let k = h.0.about.0 in
    let well = well_of (here s) h.0 in
    let few = at_most (suc s.context.loops) most_loops limit (no_other (bytes_eq w (codes "then")) _
    e) in
    let g : Stage (Expr ℕ) =
    record { code = s.value.before.code; branches = s.value.loop.branches } in
    let long = length_push s.value.before.stages g in
    let c = h.1.counts.count in (
      (
        record {
          about = (
            (
              k.0,
              k.1,
              k.2,
              record {
                good_branches = All-nil _;
                good = k.3.good;
                set_branches = All-nil _;
                sets = k.3.sets;
                few_branches = (omega arith, omega arith);
                few = (let f = k.3.few.0 in omega (arith, f), k.3.few.1);
              },
              k.4,
              k.5,
            ),
            h.0.about.1,
            h.0.about.3,
            h.0.about.4,
            h.0.about.5,
          );
          sum = h.0.sum;
        },
        refl,
      ),
      record {
        counts = record { count = omega (arith, c, long); few = few };
        goods = All-push (IsGoodStage (shell (here s))) s.value.before.stages g h.1.goods
            (well, h.1.code);
        code = no_code (shell (here s));
      },
    )

-- code begins
few_one : (n : ℕ) → n ≡ 0 → unless (nat_le (suc n) most_branches) limit ≡ None
unfolding most_branches
few_one n e = ap (λ n. unless (nat_le (suc n) 6) limit) e

do_step : (s : ChainState) → Holds due s
    → Holds (further inside) (record { context = begin_code s.context; value = s.value })
do_step s h = (
  branch_step (here s) h.0.0 (few_one s.context.loop.branches h.0.1),
  record {
    counts = record { count = h.1.counts.count; few = h.1.counts.few };
    goods = h.1.goods;
    code = h.1.code;
  },
)

-- and ends
first_length : (bs : Loop) → length (get_or bs 0 []) ≤ sum_by length bs
first_length [] = omega arith
first_length (b ∷ bs) = let q = sum_by-cons length b bs in omega (arith, q)

code_step : (s : ChainState) → Holds (further done) s
    → Holds (further outside) (record { context = end_code s.context; value = taken_code s.value })
code_step s h =
    let k = h.0.about.0 in
    let bs = s.value.loop.branches in
    let some = h.0.about.2 in
    let size = first_length bs in (
      record {
        about = (
          (
            k.0,
            k.1,
            k.2,
            record {
              good_branches = All-nil _;
              good = k.3.good;
              set_branches = All-nil _;
              sets = k.3.sets;
              few_branches = (omega arith, omega arith);
              few = (let f = k.3.few.0 in omega (arith, f), k.3.few.1);
            },
            k.4,
            k.5,
          ),
          h.0.about.1,
          h.0.about.3,
          h.0.about.4,
          h.0.about.5,
        );
        sum = h.0.sum;
      },
      record {
        counts = record { count = h.1.counts.count; few = h.1.counts.few };
        goods = h.1.goods;
        code = record {
          good = k.3.good_branches 0 [] some;
          sets = k.3.set_branches 0 [] some;
          few = (let f = k.3.few.0 in let l = k.3.few.1 in omega (arith, f, l, size));
        };
      },
    )

block_keeps : KeepsShell loops.block
block_keeps p = both (λ s x q k e. q) (both (statement_keeps p) (λ s x q k e. q))

code_leads : To due code_rule (further outside)
code_leads =
    via (further inside) (λ s x h k e. do_step s h)
    (via (further done) (further_leads inside done loops.block block_leads block_keeps)
    (λ s h. code_step s h))

stage_leads : To due stage (further done)
stage_leads =
    via (further outside) (code_leads, (λ s h. (h.0.0, h.1)))
    (further_leads outside done (some branch) branches_lead branches_keep)

further_leads_on : To (further done) further_loop (further done)
further_leads_on = via due (λ s x h k e. then_step s (word_in x.lexeme) h e) stage_leads

chain_leads : To (first early) chain (further done)
chain_leads = via (further done) loop_leads (further_leads_on, (λ s h. h))

-- ---- the rules
chain_opens : (n : LoopRule) (a b : Place) → Called n a b → (s : ChainState) → Holds a s
    → Opens chain_language Holds Called n s b
chain_opens n (first a) (first b) c s h =
    let o = opens c (here s) h.0 in
    record {
      place = first o.place;
      there = (o.there, h.1);
      leads = first_leads o.place b (loops.rule_says n s.context.loop) o.leads;
    }
chain_opens n (first a) (further b) c s h = absurd c
chain_opens n (first a) due c s h = absurd c
chain_opens n (further a) (first b) c s h = absurd c
chain_opens n (further a) due c s h = absurd c
chain_opens n due b c s h = absurd c
chain_opens n (further a) (further b) c s h =
    let o = opens c (here s) h.0 in
    record {
      place = further o.place;
      there = (o.there, h.1);
      leads =
          further_leads o.place b (loops.rule_says n s.context.loop) o.leads
          (λ p. rules_keep p n s.context.loop);
    }

-- ---- a chain that was read
-- a loop that sets nothing is well formed where it is with a start
without_init : (l : Program (Expr ℕ)) → IsReadWell l → IsReadWell (record l { init = [] })
unfolding AreDistinct
without_init l w = record {
  some_name = w.some_name;
  formed = record {
    set_once = tt;
    set = All-nil _;
    free = All-nil _;
    some_branch = w.formed.some_branch;
    statements = w.formed.statements;
    set_first = w.formed.set_first;
  };
  limits = record {
    few_names = w.limits.few_names;
    short_names = w.limits.short_names;
    few_locals = w.limits.few_locals;
    short_locals = w.limits.short_locals;
    few_branches = w.limits.few_branches;
    few_statements = w.limits.few_statements;
    init = All-nil _;
    values = w.limits.values;
  };
}

is_loop : (l : Program (Expr ℕ)) → IsReadWell l → IsLoop l
is_loop l w = record { some_name = w.some_name; formed = w.formed; limits = w.limits }

-- code is that of a loop that has it alone
code_formed : (p : Program (Expr ℕ)) (bs : Loop) → IsReadWell (with_branches p bs)
    → (code : List (Statement (Expr ℕ))) → IsGoodCode p code
    → IsReadWell (with_branches p (code ∷ []))
unfolding most_branches
code_formed p bs w code g =
    let n = length p.names + length p.locals in
    let total = sum_by-cons length code [] in
    let none : sum_by (length {A = Statement (Expr ℕ)}) [] ≡ 0 = refl in
    record {
      some_name = w.some_name;
      formed = record {
        set_once = w.formed.set_once;
        set = w.formed.set;
        free = w.formed.free;
        some_branch = omega arith;
        statements = All-push (All (IsStatement n)) [] code (All-nil _)
            (All-weaker (IsGood n) (IsStatement n) (λ c good. good.formed) code g.good);
        set_first = All-push (SetsFirst (local_places (length p.names) (length p.locals))) [] code
            (All-nil _) g.sets;
      };
      limits = record {
        few_names = w.limits.few_names;
        short_names = w.limits.short_names;
        few_locals = w.limits.few_locals;
        short_locals = w.limits.short_locals;
        few_branches = omega arith;
        few_statements = (let f = g.few in omega (arith, f, total, none));
        init = w.limits.init;
        values = All-push (All (λ (c : Statement (Expr ℕ)). All IsSmall c.values)) [] code
            (All-nil _)
            (All-weaker (IsGood n) (λ (c : Statement (Expr ℕ)). All IsSmall c.values)
            (λ c good. good.small) code g.good);
      };
    }

pub record IsReadWellChain (c : Chain (Expr ℕ)) : Type 0 where
  pub loops : (j : ℕ) → j ≤ length c.further → IsLoop (loop_at c j)
  pub codes : (j : ℕ) → suc j ≤ length c.further
      → IsLoop (loop_of c.first ((get_or c.further j no_stage).code ∷ []))
  pub few : suc (length c.further) ≤ most_loops

of_goods : (program : Program (Expr ℕ)) (gs : List (Stage (Expr ℕ))) → Goods program gs
    → 0 < length gs → length gs ≤ most_loops → IsReadWellChain (of_stages program gs)
of_goods program [] h l few = absurd (omega (arith, l))
of_goods program (g ∷ gs) h l few = record { loops = at; codes = code; few = few }
  where
    rest : Goods program gs
    rest = All-tail (IsGoodStage program) g gs h

    at : (j : ℕ) → j ≤ length gs → IsLoop (loop_at (of_stages program (g ∷ gs)) j)
    at zero k = is_loop _ (All-head (IsGoodStage program) g gs h).0
    at (suc j) k =
        is_loop _ (without_init (with_branches program (get_or gs j no_stage).branches)
        (rest j no_stage (omega (arith, k))).0)

    code : (j : ℕ) → suc j ≤ length gs
        → IsLoop (loop_of program ((get_or gs j no_stage).code ∷ []))
    code j k =
        let x = rest j no_stage (omega (arith, k)) in
        is_loop _ (without_init (with_branches program ((get_or gs j no_stage).code ∷ []))
        (code_formed program (get_or gs j no_stage).branches x.0 (get_or gs j no_stage).code x.1))

well_in : (s : ChainState) → Holds (further done) s → IsReadWellChain (chain_in s)
well_in s h =
    let g : Stage (Expr ℕ) =
    record { code = s.value.before.code; branches = s.value.loop.branches } in
    let long = length_push s.value.before.stages g in
    let c = h.1.counts.count in
    let f = h.1.counts.few in
    of_goods (program_in (here s)) (s.value.before.stages ++ g ∷ [])
    (All-push (IsGoodStage (program_in (here s))) s.value.before.stages g h.1.goods
    (well_of (here s) h.0, h.1.code))
    (omega (arith, long)) (omega (arith, long, c, f))

nothing_there : Holds (first early) chain_nothing
unfolding most_loops
nothing_there = (
  nothing_read,
  record { counts = record { count = refl; few = omega arith }; none = refl },
)

pub chain_well : (bytes : List ℕ) (c : Chain (Expr ℕ)) → chain_of bytes ≡ Ok c → IsReadWellChain c
chain_well bytes c e =
    let (s, derived, same) = (chain_read bytes c).0 e in
    subst IsReadWellChain same
    (well_in s (places_kept chain_language Holds Called chain_opens whole_chain chain_nothing s
    (tokens bytes) derived (first early) (further done) (via (further done) chain_leads
    (via (further done) (λ s x h k e. h) (λ s h. h))) nothing_there))
