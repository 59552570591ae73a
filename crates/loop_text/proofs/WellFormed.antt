-- What is read as a loop is well formed and within the limits, by what holds at each place of its text.
--   X_step            what a token or the end of a right side leads to, in a statement
--   loop_leads          the grammar of loops leads from place to place
--   loop_well           so each loop that is read is well formed, and IsReadWell
use Rattle.std.proofs.Common.{◌≡◌, ◌≢◌, ℕ, suc, ◌+◌, ◌<◌, ◌≤◌, List, [], ◌∷◌, ◌++◌, length, refl, ap, sym, subst, ◌∙◌, None, All, Bool, true, false, ◌==◌, sum_by, nat_lt, Ok, arith}
use Rattle.std.proofs.lemmas.Bool.{eq-eqb}
use Rattle.std.proofs.lemmas.List.{length-map, get_or-map, length-append, length_push}
use Rattle.std.proofs.lemmas.List.Folds.{list_any_at}
use Rattle.std.proofs.lemmas.List.Elements.{All-nil, All-push, All-weaker}
use Rattle.std.proofs.lemmas.Bool.Decides.{nat_tests}
use Rattle.loops.specs.Program.{Expr, Equation, Statement, Program}
use Rattle.loops.specs.WellFormed.{Uses, AreDistinct, IsStatement, is_among, local_places, still_unset, IsWellFormed}
use Rattle.loops.specs.Limits.{most_bytes, most_statements, IsSmall, IsWithinLimits}
use Rattle.loops.proofs.Starts.{uses_weaker}
use Rattle.algebra.proofs.Basics.{not_both}
use Rattle.grammars.specs.Grammar.{after_change, some}
use Rattle.grammars.specs.Embedded.{part, with_part}
use Rattle.grammars.proofs.Kept.{Leads, Opens, places_kept, lifted_leads}
use Rattle.poly_text.specs.Reasons.{limit, twice}
use Rattle.poly_text.specs.NameFaults.{has}
use Rattle.poly_text.specs.Sums.{SumState, place, SumRule, sum_language}
use Rattle.poly_text.proofs.AllowedNames.{Allowed}
use Rattle.poly_text.proofs.SumKept.{Fits, Safe, none_safe, at_most, no_first, no_second, rules_keep}
use Rattle.poly_text.specs.Lexemes.{tokens}
use Rattle.poly_text.specs.Kinds.{word_in}
use Rattle.poly_text.specs.Sums as sums
use Rattle.loop_text.specs.Loops.{LoopContext, LoopState, no_sum, no_sum_value, nothing, name_fault, target_fault, statement_fault, aim, set_variable, end_value, begin_statement, end_statement, top, with_value, with_statement, sums_in_loops, LoopRule, Rule, of_sums, more_values, loop_language, whole_loop, more_if, names, locals, start, init, right_side, single, targets, values, several, another_value, head, block, branch, loop}
use Rattle.loop_text.specs.LoopReader.{program_in, loop_of}
use Rattle.loop_text.proofs.LoopLaws.{loop_read}
use Rattle.loop_text.proofs.LocalPlaces.{unset_behind, unset_push, sets_push}
use Rattle.loop_text.proofs.HeldAtPlaces.{Place, name_of, set_in, Names, Starts, IsGood, Bodies, Aims, unset_in, Kept, Scoped, About, Holds, distinct_push, placed, unless_so, scope_safe, right_side_fits, right_side_small, declare_step, local_step, init_step, set_step, equation_step, init_end_step, no_init_step, branch_step, branch_end_step, early, named, starting, setting, outside, done, inside, opened, aimed, last, valued, full}

-- ---- statements
pub opening_step : (s : LoopState) → Holds inside s → statement_fault s.context ≡ None
    → Holds opened (record s { context = begin_statement s.context })
opening_step s h e =
    let k = h.about.0 in
    let few : (1 + (sum_by length s.value.branches + length s.value.statements)
    ≤ suc s.context.statements) × (suc s.context.statements ≤ most_statements) =
    (omega (arith, k.3.few.0), at_most (suc s.context.statements) most_statements limit e) in
    let bodies : Bodies (length s.context.names) (length s.context.locals) 1 1 s.context.branches
    (suc s.context.statements) s.value.branches s.value.statements =
    record {
      good_branches = k.3.good_branches;
      good = k.3.good;
      set_branches = k.3.set_branches;
      sets = k.3.sets;
      few_branches = k.3.few_branches;
      few = few;
    } in
    record {
      about = (
        (k.0, k.1, k.2, bodies, k.4, k.5),
        h.about.1,
        record { all = h.about.2.all; unset = h.about.2.unset },
        h.about.3,
      );
      sum = h.sum;
    }

aimed_at : (c : LoopContext) (w : List ℕ) → All (λ i. i < length c.sum.names) c.targets
    → AreDistinct c.targets → name_fault c w (target_fault c) ≡ None
    → Aims (length c.sum.names) (aim c w).targets
aimed_at c w within distinct e =
    let i = place c.sum w in
    let there = placed c w (target_fault c) e in
    let new = distinct_push c.targets i distinct (unless_so (has c.targets i) twice None
    there.1).0 in
    record {
      some = omega (arith, length_push c.targets i);
      within = All-push (λ i. i < length c.sum.names) c.targets i within there.0;
      distinct = new;
    }

pub first_target_step : (s : LoopState) (w : List ℕ) → Holds opened s
    → name_fault s.context w (target_fault s.context) ≡ None
    → Holds last (record s { context = aim s.context w })
unfolding AreDistinct
first_target_step s w h e =
    let no_target = sym h.about.1.no_target in
    let aims = aimed_at s.context w (subst (All (λ i. i < length s.context.sum.names)) no_target
    (All-nil _)) (subst AreDistinct no_target tt) e in
    let long : length s.context.targets ≡ 0 = ap length h.about.1.no_target in
    record {
      about = (
        h.about.0,
        aims,
        omega (
          arith,
          long,
          h.about.1.no_value,
          length_push s.context.targets
              (place s.context.sum w),
        ),
        record { all = h.about.2.all; unset = h.about.2.unset },
      );
      sum = h.sum;
    }

pub target_step : (s : LoopState) (w : List ℕ) → Holds aimed s
    → name_fault s.context w (target_fault s.context) ≡ None
    → Holds aimed (record s { context = aim s.context w })
target_step s w h e =
    record {
      about = (
        h.about.0,
        aimed_at s.context w h.about.1.within h.about.1.distinct e,
        omega (arith, h.about.2, length_push s.context.targets (place s.context.sum w)),
        record { all = h.about.3.all; unset = h.about.3.unset },
      );
      sum = h.sum;
    }

pub last_aimed : (s : LoopState) → Holds last s → Holds aimed s
last_aimed s h = record {
  about = (h.about.0, h.about.1, omega (arith, h.about.2), h.about.3);
  sum = h.sum;
}

length-all : (names vs ls : List (List ℕ)) → names ≡ vs ++ ls → length names ≡ length vs + length ls
length-all names vs ls e = ap length e ∙ length-append vs ls

with_side : (s : LoopState) → Kept (set_in s.value.init) 1 1 s
    → Scoped s.context.sum.names s.context.sum.refused s
    → Safe s.context.sum.names s.context.sum.refused s.context.sum.used (part sums_in_loops s)
    → Kept (set_in s.value.init) 1 1 (after_change end_value with_value s)
with_side s k scoped p =
    let names = s.context.sum.names in
    let refused = s.context.sum.refused in
    let n = length s.context.names + length s.context.locals in
    let size : length names ≡ n = length-all names s.context.names s.context.locals scoped.all in
    let e = top s.value.sum.values in
    let over : Uses (λ i. i < n) e = uses_weaker (Allowed names refused) (λ i. i < n) (λ i a.
    let l : i < length names = a.within in omega (arith, l, size)) e
    (right_side_fits s p).over in
    let set_variable : Uses (λ i. is_among (unset_in s) i ≡ false) e =
    uses_weaker (Allowed names refused)
    (λ i. is_among (unset_in s) i ≡ false) (λ i a. subst (λ us. is_among us i ≡ false)
    scoped.unset a.free) e (right_side_fits s p).over in
    let all = All-push (Uses (λ i. i < n)) s.value.values e k.4.over over in
    let sets = All-push (Uses (λ i. is_among (unset_in s) i ≡ false)) s.value.values e k.4.set
    set_variable in (
      k.0,
      k.1,
      k.2,
      k.3,
      record {
        over = all;
        set = sets;
        small = All-push IsSmall s.value.values e
            k.4.small (right_side_small s p);
        many = omega (arith, length_push s.value.values e, k.4.many);
      },
      k.5,
    )

side_step : (s : LoopState) → Holds aimed s → Holds valued (after_change end_value with_value s)
side_step s h = record {
  about = (
    with_side s h.about.0 h.about.3 h.sum,
    h.about.1,
    h.about.2,
    record { all = h.about.3.all; unset = h.about.3.unset },
    refl,
  );
  sum = scope_safe s.context.sum.names s.context.sum.refused no_sum_value refl;
}

last_side_step : (s : LoopState) → Holds last s → Holds full (after_change end_value with_value s)
last_side_step s h = record {
  about = (
    with_side s h.about.0 h.about.3 h.sum,
    h.about.1,
    h.about.2,
    record { all = h.about.3.all; unset = h.about.3.unset },
    refl,
  );
  sum = scope_safe s.context.sum.names s.context.sum.refused no_sum_value refl;
}

pub statement_step : (s : LoopState) → Holds full s
    → Holds inside (record {
      context = end_statement s.context;
      value = with_statement s.context s.value;
    })
statement_step s h =
    let n = length s.context.names + length s.context.locals in
    let places = local_places (length s.context.names) (length s.context.locals) in
    let size : length s.context.sum.names ≡ n = length-all s.context.sum.names s.context.names
    s.context.locals h.about.3.all in
    let k = h.about.0 in
    let cs = s.value.statements in
    let c : Statement (Expr ℕ) = record { targets = s.context.targets; values = s.value.values } in
    let targets : All (λ i. i < n) s.context.targets =
    subst (λ j. All (λ i. i < j) s.context.targets) size h.about.1.within in
    let formed : IsStatement n c = record {
      some_target = h.about.1.some;
      sizes = sym (k.4.many ∙ h.about.2);
      targets = targets;
      distinct = h.about.1.distinct;
      values = k.4.over;
    } in
    let good = All-push (IsGood n) cs c k.3.good (record { formed = formed; small = k.4.small }) in
    let bodies : Bodies (length s.context.names) (length s.context.locals) 1 0 s.context.branches
    s.context.statements s.value.branches (cs ++ c ∷ []) =
    record {
      good_branches = k.3.good_branches;
      good = good;
      set_branches = k.3.set_branches;
      sets = sets_push cs c places k.3.sets k.4.set;
      few_branches = k.3.few_branches;
      few = (omega (arith, k.3.few.0, length_push cs c), k.3.few.1);
    } in
    let left : still_unset s.context.targets s.context.sum.refused ≡ unset_behind (cs ++ c ∷ [])
    places = ap (still_unset s.context.targets) h.about.3.unset
    ∙ sym (unset_push cs c places) in
    record {
      about = (
        (
          k.0,
          k.1,
          k.2,
          bodies,
          record {
            over = All-nil (Uses (λ i. i < n));
            set = All-nil _;
            small = All-nil IsSmall;
            many = refl;
          },
          k.5,
        ),
        record { no_target = refl; no_value = refl },
        record { all = h.about.3.all; unset = left },
        h.about.4,
      );
      sum = scope_safe s.context.sum.names (still_unset s.context.targets s.context.sum.refused)
          s.value.sum h.about.4;
    }

-- ---- while a sum is read
pub data IsSumPlace : Place → Type 0 where
  in_setting : IsSumPlace setting
  in_aimed : IsSumPlace aimed
  in_last : IsSumPlace last

module _ (s : LoopState) (t : SumState) (names : List (List ℕ)) (refused used : List ℕ) where
  moved : {a : Place} → IsSumPlace a → ((i : ℕ) → has t.context.used i ≡ false → has used i ≡ false)
      → About names refused used s a
      → About names refused t.context.used (with_part sums_in_loops t s) a
  moved in_setting grows h = (h.0, h.1, h.2, (λ n d l i e. h.3 n d l i (grows i e)), h.4, h.5)
  moved in_aimed grows h = (h.0, h.1, h.2, record { all = h.3.all; unset = h.3.unset })
  moved in_last grows h = (h.0, h.1, h.2, record { all = h.3.all; unset = h.3.unset })

pub put_back : (a : Place) → IsSumPlace a → (s : LoopState) (t : SumState) → Holds a s
    → Safe s.context.sum.names s.context.sum.refused s.context.sum.used t
    → Holds a (with_part sums_in_loops t s)
put_back a p s t h q =
    let used = s.context.sum.used in
    let by_names = sym q.names_are in
    let by_refused = sym q.refused_are in
    let about = subst (λ is. About t.context.names is used s a) by_refused
    (subst (λ names. About names s.context.sum.refused used s a) by_names h.about) in
    let each = subst (λ is. All (Fits t.context.names is t.context.used) t.value.values) by_refused
    (subst (λ names. All (Fits names s.context.sum.refused t.context.used) t.value.values)
    by_names q.each) in record {
      about = moved s t t.context.names t.context.refused used p q.grows about;
      sum = record {
        names_are = refl;
        refused_are = refl;
        each = each;
        few = q.few;
        limited = q.limited;
        grows = λ i e. e;
      };
    }

pub data Called : LoopRule → Place → Place → Type 0 where
  a_sum_there : {n : SumRule} {a : Place} → IsSumPlace a → Called (of_sums n) a a
  all_values : Called more_values valued full

abbrev pub To : Place → Rule → Place → Type 0
To a g b = Leads loop_language Holds Called a g b

-- ---- each part of the grammar
via : {X Z : Place → Type 0} (b : Place) → X b → Z b → (b : Place) × (X b × Z b)
via b x z = (b, (x, z))

no_locals : Names []
no_locals = record { few = omega arith; short = All-nil (λ w. length w ≤ most_bytes) }

pub names_lead : To early names named
names_lead =
    via early (λ s x h k e. h) (via named
    (via named (λ s x h k e. declare_step s (word_in x.lexeme) [] h.about.0 no_locals h.about.1 e) (
      via named (λ s x h k e. h) (λ s x h k e. declare_step s (word_in x.lexeme) s.context.locals
          h.about.1 h.about.3 h.about.2 e),
      (λ s h. h),
    ))
    (λ s x h k e. h))

pub locals_lead : To named locals named
locals_lead =
    via named (λ s x h k e. h) (via named
    (via named (λ s x h k e. local_step s (word_in x.lexeme) h e) (
      via named (λ s x h k e. h)
          (λ s x h k e. local_step s (word_in x.lexeme) h e),
      (λ s h. h),
    ))
    (λ s x h k e. h))

pub start_leads : To starting start starting
start_leads = via setting (λ s x h k e. set_step s (word_in x.lexeme) h e)
    (via setting (λ s x h k e. h) (via setting (a_sum_there in_setting) equation_step))

init_leads : To named init outside
init_leads =
    via starting (λ s x h k e. init_step s h) (via starting
    (via starting start_leads (via starting (λ s x h k e. h) start_leads, (λ s h. h)))
    (λ s x h k e. init_end_step s h))

single_leads : To inside single inside
single_leads =
    via last (λ s x h k e. first_target_step _ (word_in x.lexeme)
    (opening_step s h (no_first _ _ e)) (no_second _ _ e))
    (via last (λ s x h k e. h) (via full (via last (a_sum_there in_last) last_side_step)
    (λ s x h k e. statement_step s h)))

targets_lead : To opened targets aimed
targets_lead =
    via aimed (λ s x h k e. last_aimed _ (first_target_step s (word_in x.lexeme) h e))
    (via aimed (λ s x h k e. h) (via aimed
    (via aimed (λ s x h k e. target_step s (word_in x.lexeme) h e) (
      via aimed (λ s x h k e. h)
          (λ s x h k e. target_step s (word_in x.lexeme) h e),
      (λ s h. h),
    ))
    (λ s x h k e. h)))

side_leads : To aimed right_side valued
side_leads = via aimed (a_sum_there in_aimed) side_step

values_lead : To aimed values full
values_lead =
    via aimed (λ s x h k e. h)
    (via aimed (λ s x h k e. h) (via valued side_leads (via full all_values (λ s x h k e. h))))

another_leads : To aimed another_value full
another_leads = via aimed (λ s x h k e. h) (via valued side_leads all_values)

several_leads : To inside several inside
several_leads = via opened (λ s x h k e. opening_step s h e)
    (via aimed targets_lead (via full values_lead (λ s x h k e. statement_step s h)))

head_leads : To inside head inside
head_leads = (
  via inside (via inside (λ s x h k e. h) (via inside (λ s x h k e. h) (
    (λ s x h k e. h),
    (λ s h. h),
  ))) (λ s x h k e. h),
  (λ s x h k e. h),
)

branch_leads : (a : Place) → ((s : LoopState) → Holds a s → Holds outside s) → To a branch done
branch_leads a weaker =
    via inside (λ s x h k e. branch_step s (weaker s h) e) (via inside head_leads
    (via inside ((single_leads, several_leads), (λ s h. h)) (λ s x h k e. branch_end_step s h)))

pub block_leads : To inside block done
block_leads =
    via inside (λ s x h k e. h) (via inside ((single_leads, several_leads), (λ s h. h))
    (λ s x h k e. branch_end_step s h))

pub done_is_outside : (s : LoopState) → Holds done s → Holds outside s
done_is_outside s h = record {
  about = (h.about.0, h.about.1, h.about.3, h.about.4, h.about.5);
  sum = h.sum;
}

pub branches_lead : To outside (some branch) done
branches_lead = via done (branch_leads outside (λ s h. h)) (
  branch_leads done done_is_outside,
  (λ s h. h),
)

loop_leads : To early loop done
loop_leads =
    via named names_lead (via named (locals_lead, (λ s h. h))
    (via outside (init_leads, no_init_step) branches_lead))

-- ---- the rules
abbrev InPart : LoopState → SumState → Type 0
InPart s t = Safe s.context.sum.names s.context.sum.refused s.context.sum.used t

pub opens : {n : LoopRule} {a b : Place} → Called n a b → (s : LoopState) → Holds a s
    → Opens loop_language Holds Called n s b
opens (a_sum_there {n = n} {a = a} p) s h = record {
  place = a;
  there = h;
  leads =
      lifted_leads sums_in_loops sum_language loop_language (λ ks y. refl) Holds Called InPart a
      (record { rules = λ n. a_sum_there p; part_has = λ s h. h.sum; put_back = put_back a p })
      (sums.rule_says n s.context.sum)
      (λ (t : LoopState). rules_keep t.context.sum.names t.context.sum.refused t.context.sum.used n
      s.context.sum);
}
opens all_values s h = go (nat_lt s.context.values (length s.context.targets)) refl
  where
    go : (b : Bool) → nat_lt s.context.values (length s.context.targets) ≡ b
        → Opens loop_language Holds Called more_values s full
    go true e = record {
      place = aimed;
      there =
          record {
            about = (h.about.0, h.about.1, grind (arith, nat_tests), h.about.3);
            sum = h.sum;
          };
      leads = subst (λ b. To aimed (more_if b) full) (sym e) another_leads;
    }
    go false e =
        let enough : s.context.values ≡ length s.context.targets = let few : s.context.values
        ≤ length s.context.targets = h.about.2 in grind (arith, nat_tests) in
        record {
          place = full;
          there =
              record { about = (h.about.0, h.about.1, enough, h.about.3, h.about.4); sum = h.sum };
          leads = subst (λ b. To full (more_if b) full) (sym e) (λ s h. h);
        }

-- ---- a loop that was read
pub record IsReadWell (l : Program (Expr ℕ)) : Type 0 where
  pub some_name : 0 < length l.names
  pub formed : IsWellFormed l
  pub limits : IsWithinLimits l

free_of : (ns : List (List ℕ)) (init : List (Equation (Expr ℕ))) (i : ℕ)
    → Allowed ns (set_in init) i → (i < length ns) × All (λ (f : Equation (Expr ℕ)). i ≢ f.name)
    init
free_of ns init i a = (
  a.within,
  λ k d l e. not_both (has (set_in init) i) (list_any_at (λ j. j == i) (set_in init) k
      d.name (omega (arith, l, length-map init name_of))
      (eq-eqb _ i (get_or-map name_of init k d d.name l ∙ sym e))) a.free,
)

pub well_of : (s : LoopState) → Holds done s → IsReadWell (program_in s)
well_of s h =
    let names = s.context.names in
    let m = length names in
    let n = m + length s.context.locals in
    let starts : Starts names (set_in s.value.init) s.value.init = h.about.0.2 in
    let bodies : Bodies m (length s.context.locals) 0 0 s.context.branches s.context.statements
    s.value.branches s.value.statements = h.about.0.3 in
    let Free : ℕ → Type 0 = λ i. (i < m) × All (λ (f : Equation (Expr ℕ)). i ≢ f.name)
    s.value.init in
    let locals : Names s.context.locals = h.about.0.5 in
    record {
      some_name = h.about.0.0;
      formed = record {
        set_once = starts.distinct;
        set = λ k d l. subst (λ i. i < m) (get_or-map name_of s.value.init k d d.name l)
            (starts.within k d.name (omega (arith, l, length-map s.value.init name_of)));
        free = All-weaker (λ (a : Equation (Expr ℕ)). Uses (Allowed names (set_in s.value.init))
            a.value) (λ (a : Equation (Expr ℕ)). Uses Free a.value)
            (λ a u. uses_weaker (Allowed names (set_in s.value.init)) Free
            (free_of names s.value.init) a.value u) s.value.init starts.free;
        some_branch = h.about.2;
        statements = All-weaker (All (IsGood n)) (All (IsStatement n)) (λ b g.
            All-weaker (IsGood n) (IsStatement n) (λ c good. good.formed) b g) s.value.branches
            bodies.good_branches;
        set_first = bodies.set_branches;
      };
      limits = record {
        few_names = h.about.0.1.few;
        short_names = h.about.0.1.short;
        few_locals = locals.few;
        short_locals = locals.short;
        few_branches = omega (arith, bodies.few_branches.0, bodies.few_branches.1);
        few_statements = omega (arith, bodies.few.0, bodies.few.1);
        init = starts.small;
        values = All-weaker (All (IsGood n)) (All (λ (c : Statement (Expr ℕ)).
            All IsSmall c.values))
            (λ b g. All-weaker (IsGood n) (λ (c : Statement (Expr ℕ)). All IsSmall c.values)
            (λ c good. good.small) b g) s.value.branches bodies.good_branches;
      };
    }

pub nothing_read : Holds early nothing
nothing_read =
    record {
      about = (record { few = omega arith; short = All-nil (λ w. length w ≤ most_bytes) }, refl);
      sum = none_safe (no_sum []) no_sum_value refl (omega arith);
    }

pub loop_well : (bytes : List ℕ) (l : Program (Expr ℕ)) → loop_of bytes ≡ Ok l → IsReadWell l
loop_well bytes l e =
    let (s, derived, same) = (loop_read bytes l).0 e in
    subst IsReadWell same
    (well_of s (places_kept loop_language Holds Called (λ n a b c s h. opens c s h) whole_loop
    nothing s (tokens bytes) derived early done
    (via done loop_leads (via done (λ s x h k e. h) (λ s h. h))) nothing_read))
