-- What holds at each place of the text of a loop that is read, and that names, init and branches lead from place to place.
--   Place             early, named: a name may come, behind names, and behind those a local name; starting, setting: an equation of init may come, one is read; outside, done: no branch is open,
--                     and there is one; inside, opened: a statement may come, behind its (; aimed, last: a right side may come, and is the last;
--                     valued, full: behind a right side, behind the last
--   Names, Starts, Bodies, Sides, Aims     what holds of the names, the equations of init, branches and statements, right sides, and targets
--   Holds a s         what holds of the state s at the place a
--   X_step            what a token leads to, of names, of init and of branches
use Rattle.std.proofs.Common.{◌≡◌, ◌≢◌, ℕ, suc, ◌+◌, ◌<◌, ◌≤◌, List, [], ◌∷◌, ◌++◌, map, length, refl, ap, ap₂, sym, subst, ◌∙◌, get_or, Some, None, All, Bool, true, false, ◌==◌, nat_le, sum_by, Option, unwrap_or, if◌then◌else◌, arith}
use Rattle.std.specs.Option.{option_map_or}
use Rattle.std.proofs.lemmas.Bool.{eqb-false, ne_eqb, or_parts}
use Rattle.std.proofs.lemmas.List.{map-append, length_push}
use Rattle.std.proofs.lemmas.List.Sums.{sum_by-cons, sum_by_push}
use Rattle.std.proofs.lemmas.List.Elements.{All-nil, All-push, All-head}
use Rattle.loops.specs.Program.{Expr, Equation, Statement}
use Rattle.loops.specs.WellFormed.{Uses, AreDistinct, IsStatement, is_among, local_places, SetsFirst}
use Rattle.loops.specs.Limits.{most_names, most_bytes, most_branches, most_statements, operators, IsSmall}
use Rattle.loops.proofs.Starts.{uses_weaker}
use Rattle.loop_model.specs.Uses.{uses}
use Rattle.loop_model.specs.Names.{place_of}
use Rattle.loop_model.proofs.Places.{place_within}
use Rattle.grammars.specs.Grammar.{after_change, some}
use Rattle.grammars.specs.Embedded.{part}
use Rattle.poly_text.specs.Reasons.{Reason, limit, twice, unknown, init_uses, unless}
use Rattle.poly_text.specs.NameFaults.{has}
use Rattle.poly_text.specs.Sums.{SumValue, place}
use Rattle.poly_text.proofs.AllowedNames.{has_push, Allowed, uses_apart}
use Rattle.poly_text.proofs.SumKept.{Fits, Safe, none_safe, number_fits, at_most, no_first, no_second}
use Rattle.poly_text.specs.Sums as sums
use Rattle.loop_text.specs.Loops.{LoopContext, LoopState, no_sum, in_scope, no_sum_value, nothing, length_fault, new_fault, declared_fault, local_fault, name_fault, set_fault, branch_fault, declare, declare_local, set_variable, end_equation, end_sum, begin_branch, end_branch, top, first_target, with_equation, with_branch, sums_in_loops, names, locals, init, targets, values, branch}
use Rattle.loop_text.proofs.LocalPlaces.{unset_behind, unset_none, sets_none}

pub data Place : Type 0 where
  early named starting setting outside done inside opened aimed last valued full : Place

abbrev pub name_of : Equation (Expr ℕ) → ℕ
name_of a = a.name

abbrev pub set_in : List (Equation (Expr ℕ)) → List ℕ
set_in init = map name_of init

pub record Names (names : List (List ℕ)) : Type 0 where
  pub few : length names ≤ most_names
  pub short : All (λ w. length w ≤ most_bytes) names

-- equations that set variables among those refused
pub record Starts (names : List (List ℕ)) (refused : List ℕ)
    (init : List (Equation (Expr ℕ))) : Type 0 where
  pub distinct : AreDistinct refused
  pub within : All (λ i. i < length names) refused
  pub free : All (λ (a : Equation (Expr ℕ)). Uses (Allowed names refused) a.value) init
  pub small : All (λ (a : Equation (Expr ℕ)). IsSmall a.value) init

pub record IsGood (m : ℕ) (c : Statement (Expr ℕ)) : Type 0 where
  pub formed : IsStatement m c
  pub small : All IsSmall c.values

-- b branches and k statements are open, of those that began, over m variables and l local names
pub record Bodies (m l b k branches statements : ℕ) (bs : List (List (Statement (Expr ℕ))))
    (cs : List (Statement (Expr ℕ))) : Type 0 where
  pub good_branches : All (All (IsGood (m + l))) bs
  pub good : All (IsGood (m + l)) cs
  pub set_branches : All (SetsFirst (local_places m l)) bs
  pub sets : SetsFirst (local_places m l) cs
  pub few_branches : (b + length bs ≤ branches) × (branches ≤ most_branches)
  pub few : (k + (sum_by length bs + length cs) ≤ statements) × (statements ≤ most_statements)

pub record Sides (n : ℕ) (unset : List ℕ) (count : ℕ) (es : List (Expr ℕ)) : Type 0 where
  pub over : All (Uses (λ i. i < n)) es
  pub set : All (Uses (λ i. is_among unset i ≡ false)) es
  pub small : All IsSmall es
  pub many : length es ≡ count

pub record Aims (m : ℕ) (is : List ℕ) : Type 0 where
  pub some : 0 < length is
  pub within : All (λ i. i < m) is
  pub distinct : AreDistinct is

-- no equation uses a variable that isn't used
abbrev pub Noted : List ℕ → List (Equation (Expr ℕ)) → Type 0
Noted used init = All (λ (a : Equation (Expr ℕ)). (i : ℕ) → has used i ≡ false
    → uses a.value i ≡ false) init

pub record IsIdle (targets : List ℕ) (values : ℕ) : Type 0 where
  pub no_target : targets ≡ []
  pub no_value : values ≡ 0

-- with these variables and local names
abbrev pub nothing_with : List (List ℕ) → List (List ℕ) → LoopState
nothing_with names locals = record nothing {
  context = record {
    names = names;
    locals = locals;
    sum = no_sum names;
    targets = [];
    values = 0;
    statements = 0;
    branches = 0;
  };
}

-- what is unset behind the statements of the open branch
abbrev pub unset_in : LoopState → List ℕ
unset_in s = unset_behind s.value.statements (local_places (length s.context.names)
    (length s.context.locals))

abbrev pub Kept : List ℕ → ℕ → ℕ → LoopState → Type 0
Kept refused b k s =
    (0 < length s.context.names) × Names s.context.names
    × Starts s.context.names refused s.value.init
    × Bodies (length s.context.names) (length s.context.locals) b k s.context.branches
    s.context.statements s.value.branches s.value.statements
    × Sides (length s.context.names + length s.context.locals) (unset_in s) s.context.values
    s.value.values
    × Names s.context.locals

-- in a branch a sum knows all names, and refuses those that are unset
pub record Scoped (names : List (List ℕ)) (refused : List ℕ) (s : LoopState) : Type 0 where
  pub all : names ≡ s.context.names ++ s.context.locals
  pub unset : refused ≡ unset_in s

module _ (names : List (List ℕ)) (refused used : List ℕ) (s : LoopState) where
  abbrev pub Open : ℕ → Type 0
  Open k = Kept (set_in s.value.init) 1 k s

  abbrev pub About : Place → Type 0
  About early = Names names × (s ≡ nothing_with names [])
  About named = (0 < length names) × Names names × (s ≡ nothing_with names s.context.locals)
      × Names s.context.locals
  About starting = Kept refused 0 0 s × IsIdle s.context.targets s.context.values
      × (refused ≡ set_in s.value.init) × Noted used s.value.init × (s.value.sum ≡ no_sum_value)
      × (names ≡ s.context.names) × (s.value.statements ≡ [])
  About setting = Kept refused 0 0 s × (s.context.values ≡ 0)
      × (refused ≡ set_in s.value.init ++ first_target s.context.targets ∷ [])
      × Noted used s.value.init × (names ≡ s.context.names) × (s.value.statements ≡ [])
  About outside = Kept (set_in s.value.init) 0 0 s × IsIdle s.context.targets s.context.values
      × (names ≡ s.context.names) × (s.value.statements ≡ []) × (s.value.sum ≡ no_sum_value)
  About done = Kept (set_in s.value.init) 0 0 s × IsIdle s.context.targets s.context.values
      × (0 < length s.value.branches) × (names ≡ s.context.names) × (s.value.statements ≡ [])
      × (s.value.sum ≡ no_sum_value)
  About inside = Open 0 × IsIdle s.context.targets s.context.values × Scoped names refused s
      × (s.value.sum ≡ no_sum_value)
  About opened = Open 1 × IsIdle s.context.targets s.context.values × Scoped names refused s
      × (s.value.sum ≡ no_sum_value)
  About aimed = Open 1 × Aims (length names) s.context.targets
      × (suc s.context.values ≤ length s.context.targets) × Scoped names refused s
  About last = Open 1 × Aims (length names) s.context.targets
      × (suc s.context.values ≡ length s.context.targets) × Scoped names refused s
  About valued = Open 1 × Aims (length names) s.context.targets
      × (s.context.values ≤ length s.context.targets) × Scoped names refused s
      × (s.value.sum ≡ no_sum_value)
  About full = Open 1 × Aims (length names) s.context.targets
      × (s.context.values ≡ length s.context.targets) × Scoped names refused s
      × (s.value.sum ≡ no_sum_value)

pub record Holds (a : Place) (s : LoopState) : Type 0 where
  pub about : About s.context.sum.names s.context.sum.refused s.context.sum.used s a
  pub sum : Safe s.context.sum.names s.context.sum.refused s.context.sum.used (part sums_in_loops s)

-- ---- lists that grow, and tests
pub distinct_push : (xs : List ℕ) (v : ℕ) → AreDistinct xs → has xs v ≡ false
    → AreDistinct (xs ++ v ∷ [])
unfolding AreDistinct
distinct_push [] v d h = (All-nil (λ y. y ≢ v), tt)
distinct_push (x ∷ xs) v d h =
    let both = or_parts (x == v) (has xs v) h in (
      All-push (λ y. y ≢ x) xs v d.0 (λ e. eqb-false x v both.0 (sym e)),
      distinct_push xs v d.1 both.1,
    )

-- a name on a left side that isn't at fault
pub placed : (c : LoopContext) (w : List ℕ) (fault : ℕ → Option Reason)
    → name_fault c w fault ≡ None
    → (place c.sum w < length c.sum.names) × (fault (place c.sum w) ≡ None)
placed c w fault e = go (place_of c.sum.names w) refl
    (no_second (length_fault w) (option_map_or fault (place_of c.sum.names w) (Some unknown)) e)
  where
    go : (o : Option ℕ) → place_of c.sum.names w ≡ o → option_map_or fault o (Some unknown) ≡ None
        → (unwrap_or o 0 < length c.sum.names) × (fault (unwrap_or o 0) ≡ None)
    go None h e = absurd (cc)
    go (Some i) h e = (place_within c.sum.names w i h, e)

pub unless_so : (b : Bool) (why : Reason) (o : Option Reason) → (if b then Some why else o) ≡ None
    → (b ≡ false) × (o ≡ None)
unless_so true why o e = absurd (cc)
unless_so false why o e = (refl, e)

-- ---- the right side that was read
pub top_fits : (names : List (List ℕ)) (refused used : List ℕ) (es : List (Expr ℕ))
    → All (Fits names refused used) es → Fits names refused used (top es)
top_fits names refused used [] each = number_fits names refused used 0
top_fits names refused used (e ∷ es) each = All-head (Fits names refused used) e es each

pub top_few : (es : List (Expr ℕ)) → operators (top es) ≤ sum_by operators es
unfolding operators
top_few [] = omega arith
top_few (e ∷ es) = omega (arith, sum_by-cons operators e es)

pub no_sum_safe : (names : List (List ℕ))
    → Safe names [] [] (record { context = no_sum names; value = no_sum_value })
no_sum_safe names = none_safe (no_sum names) no_sum_value refl (omega arith)

pub scope_safe : (names : List (List ℕ)) (us : List ℕ) (v : SumValue) → v ≡ no_sum_value
    → Safe names us [] (record { context = in_scope names us; value = v })
scope_safe names us v e = none_safe (in_scope names us) v e (omega arith)

module _ (s : LoopState) (p : Safe s.context.sum.names s.context.sum.refused s.context.sum.used
    (part sums_in_loops s)) where
  pub right_side_fits : Fits s.context.sum.names s.context.sum.refused s.context.sum.used
      (top s.value.sum.values)
  right_side_fits = top_fits s.context.sum.names s.context.sum.refused s.context.sum.used
      s.value.sum.values p.each

  pub right_side_small : IsSmall (top s.value.sum.values)
  right_side_small = record {
    few_operators = omega (arith, top_few s.value.sum.values, p.few, p.limited);
    low_exponents = right_side_fits.low;
  }

-- ---- names
-- a name behind others that isn't at fault
pub behind_others : (others known : List (List ℕ)) (w : List ℕ) → Names others
    → new_fault others known w ≡ None → Names (others ++ w ∷ [])
behind_others others known w names e =
    let second = no_second (unless (nat_le (suc (length others)) most_names) limit) _ e in
    let few = at_most (suc (length others)) most_names limit (no_first _ _ e) in
    let long = length_push others w in
    record {
      few = omega (arith, few, long);
      short = All-push (λ w. length w ≤ most_bytes) others w
          names.short (at_most (length w) most_bytes limit (no_first (length_fault w) _ second));
    }

pub declare_step : (s : LoopState) (w : List ℕ) (locals : List (List ℕ)) → Names s.context.sum.names
    → Names locals → s ≡ nothing_with s.context.sum.names locals → declared_fault s.context w ≡ None
    → Holds named (record s { context = declare s.context w })
declare_step s w locals names few same e =
    let by_names : s.context.sum.names ≡ s.context.names =
    sym (ap (λ (s : LoopState). s.context.names) same) in
    let by_locals : s.context.locals ≡ locals = ap (λ (s : LoopState). s.context.locals) same in
    let long = length_push s.context.names w in
    let next : record s { context = declare s.context w } ≡ nothing_with (s.context.names ++ w ∷ [])
    s.context.locals =
    ap (λ (s : LoopState). record s { context = declare s.context w }) same
    ∙ ap₂ (λ ns ls. nothing_with (ns ++ w ∷ []) ls) by_names (sym by_locals) in
    record {
      about = (
        omega (arith, long),
        behind_others s.context.names s.context.names w
            (subst Names by_names names) e,
        next,
        subst Names (sym by_locals) few,
      );
      sum = none_safe (no_sum (s.context.names ++ w ∷ [])) s.value.sum
          (ap (λ (s : LoopState). s.value.sum) same) (omega arith);
    }

pub local_step : (s : LoopState) (w : List ℕ) → Holds named s → local_fault s.context w ≡ None
    → Holds named (record s { context = declare_local s.context w })
local_step s w h e = record {
  about = (
    h.about.0,
    h.about.1,
    ap (λ (t : LoopState). record t { context = declare_local t.context w }) h.about.2,
    behind_others s.context.locals (s.context.names ++ s.context.locals) w h.about.3 e,
  );
  sum = h.sum;
}

pub init_step : (s : LoopState) → Holds named s → Holds starting s
unfolding AreDistinct
init_step s h =
    let names = s.context.sum.names in
    let locals = s.context.locals in
    let starts : Starts names [] [] = record {
      distinct = tt;
      within = All-nil _;
      free = All-nil _;
      small = All-nil _;
    } in
    let bodies : Bodies (length names) (length locals) 0 0 0 0 [] [] =
    record {
      good_branches = All-nil _;
      good = All-nil _;
      set_branches = All-nil _;
      sets = sets_none (local_places (length names) (length locals));
      few_branches = (omega arith, omega arith);
      few = (omega arith, omega arith);
    } in
    let kept : Kept [] 0 0 (nothing_with names locals) = (
      h.about.0,
      h.about.1,
      starts,
      bodies,
      record { over = All-nil _; set = All-nil _; small = All-nil _; many = refl },
      h.about.3,
    ) in
    subst (Holds starting) (sym h.about.2)
    (record {
      about = (
        kept,
        record { no_target = refl; no_value = refl },
        refl,
        All-nil _,
        refl,
        refl,
        refl,
      );
      sum = no_sum_safe names;
    })

-- ---- init
-- what is free stays so where a variable that isn't used is set
pub still_free : (names : List (List ℕ)) (refused : List ℕ) (i : ℕ) (e : Expr ℕ) → uses e i ≡ false
    → Uses (Allowed names refused) e → Uses (Allowed names (refused ++ i ∷ [])) e
still_free names refused i e none u =
    uses_weaker (λ j. Allowed names refused j × (j ≢ i)) (Allowed names (refused ++ i ∷ [])) (λ j p.
    record {
      within = p.0.within;
      free = has_push refused i j p.0.free
          (ne_eqb i j (λ e. p.1 (sym e)));
    }) e
    (uses_apart (Allowed names refused) i e none u)

pub set_step : (s : LoopState) (w : List ℕ) → Holds starting s
    → name_fault s.context w (set_fault s.context) ≡ None
    → Holds setting (record s { context = set_variable s.context w })
set_step s w h e =
    let names = s.context.names in
    let refused = s.context.sum.refused in
    let i = place s.context.sum w in
    let there = placed s.context w (set_fault s.context) e in
    let below : i < length names = subst (λ (ns : List (List ℕ)). i < length ns) h.about.5
    there.0 in
    let unset = unless_so (has refused i) twice (if has s.context.sum.used i then Some init_uses
    else None) there.1 in
    let unused = unless_so (has s.context.sum.used i) init_uses None unset.1 in
    let k = h.about.0 in
    let starts : Starts names (refused ++ i ∷ []) s.value.init = record {
      distinct = distinct_push refused i k.2.distinct unset.0;
      within = All-push (λ i. i < length names) refused i k.2.within below;
      free = λ n d l. still_free names refused i (get_or s.value.init n d).value
          (h.about.3 n d l i unused.0) (k.2.free n d l);
      small = k.2.small;
    } in
    let sets : refused ++ i ∷ [] ≡ set_in s.value.init ++ first_target (s.context.targets ++ i ∷ [])
    ∷ [] =
    ap (λ is. is ++ i ∷ []) h.about.2 ∙ ap (λ is. set_in s.value.init ++ first_target (is ++ i ∷ [])
    ∷ []) (sym h.about.1.no_target) in
    record {
      about = (
        (k.0, k.1, starts, k.3, k.4, k.5),
        h.about.1.no_value,
        sets,
        h.about.3,
        h.about.5,
        h.about.6,
      );
      sum = none_safe (set_variable s.context w).sum s.value.sum h.about.4
          h.sum.limited;
    }

pub equation_step : (s : LoopState) → Holds setting s
    → Holds starting (after_change end_equation with_equation s)
equation_step s h =
    let names = s.context.names in
    let refused = s.context.sum.refused in
    let used = s.context.sum.used in
    let k = h.about.0 in
    let a : Equation (Expr ℕ) = record {
      name = first_target s.context.targets;
      value = top s.value.sum.values;
    } in
    let over : Uses (Allowed names refused) a.value = subst (λ (ns : List (List ℕ)).
    Uses (Allowed ns refused) a.value) h.about.4 (right_side_fits s h.sum).over in
    let free = All-push (λ (a : Equation (Expr ℕ)). Uses (Allowed names refused) a.value)
    s.value.init a k.2.free over in
    let small = All-push (λ (a : Equation (Expr ℕ)). IsSmall a.value) s.value.init a k.2.small
    (right_side_small s h.sum) in
    let starts : Starts names refused (s.value.init ++ a ∷ []) = record {
      distinct = k.2.distinct;
      within = k.2.within;
      free = free;
      small = small;
    } in
    let sets = h.about.2 ∙ sym (map-append name_of s.value.init (a ∷ [])) in
    let noted = All-push (λ (a : Equation (Expr ℕ)). (i : ℕ) → has used i ≡ false
    → uses a.value i ≡ false) s.value.init a h.about.3 (right_side_fits s h.sum).among in
    record {
      about = (
        (k.0, k.1, starts, k.3, k.4, k.5),
        record { no_target = refl; no_value = h.about.1 },
        sets,
        noted,
        refl,
        h.about.4,
        h.about.5,
      );
      sum = none_safe (end_equation s.context).sum no_sum_value refl (omega arith);
    }

pub init_end_step : (s : LoopState) → Holds starting s
    → Holds outside (record s { context = end_sum s.context })
init_end_step s h = record {
  about = (
    subst (λ refused. Kept refused 0 0 s) h.about.2 h.about.0,
    h.about.1,
    h.about.5,
    h.about.6,
    h.about.4,
  );
  sum = none_safe (no_sum s.context.sum.names)
      s.value.sum h.about.4 (omega arith);
}

pub no_init_step : (s : LoopState) → Holds named s → Holds outside s
no_init_step s h =
    subst (Holds outside) (ap (λ (s : LoopState). record s { context = end_sum s.context })
    h.about.2 ∙ sym h.about.2) (init_end_step s (init_step s h))

-- ---- branches
-- no right side is open
pub no_sides : (n : ℕ) (us vs : List ℕ) (count : ℕ) (es : List (Expr ℕ)) → count ≡ 0
    → Sides n us count es → Sides n vs count es
no_sides n us vs count es none h = record {
  over = h.over;
  set = λ k d l.
      absurd (omega (arith, l, h.many, none));
  small = h.small;
  many = h.many;
}

pub branch_step : (s : LoopState) → Holds outside s → branch_fault s.context ≡ None
    → Holds inside (record s { context = begin_branch s.context })
branch_step s h e =
    let k = h.about.0 in
    let places = local_places (length s.context.names) (length s.context.locals) in
    let few : (1 + length s.value.branches ≤ suc s.context.branches)
    × (suc s.context.branches ≤ most_branches) = (
      omega (arith, k.3.few_branches.0),
      at_most (suc s.context.branches) most_branches limit e,
    ) in
    let bodies : Bodies (length s.context.names) (length s.context.locals) 1 0
    (suc s.context.branches) s.context.statements s.value.branches s.value.statements =
    record {
      good_branches = k.3.good_branches;
      good = k.3.good;
      set_branches = k.3.set_branches;
      sets = k.3.sets;
      few_branches = few;
      few = k.3.few;
    } in
    let scoped : Scoped (s.context.names ++ s.context.locals) places
    (record s { context = begin_branch s.context }) =
    record {
      all = refl;
      unset = unset_none places
          ∙ ap (λ cs. unset_behind cs places) (sym h.about.3);
    } in
    record {
      about = ((k.0, k.1, k.2, bodies, k.4, k.5), h.about.1, scoped, h.about.4);
      sum = scope_safe (s.context.names ++ s.context.locals) places s.value.sum h.about.4;
    }

pub branch_end_step : (s : LoopState) → Holds inside s
    → Holds done (record { context = end_branch s.context; value = with_branch s.context s.value })
branch_end_step s h =
    let m = length s.context.names in
    let l = length s.context.locals in
    let k = h.about.0 in
    let bs = s.value.branches in
    let cs = s.value.statements in
    let long = length_push bs cs in
    let good = All-push (All (IsGood (m + l))) bs cs k.3.good_branches k.3.good in
    let bodies : Bodies m l 0 0 s.context.branches s.context.statements (bs ++ cs ∷ []) [] =
    record {
      good_branches = good;
      good = All-nil (IsGood (m + l));
      set_branches = All-push (SetsFirst (local_places m l)) bs cs k.3.set_branches k.3.sets;
      sets = sets_none (local_places m l);
      few_branches = (omega (arith, k.3.few_branches.0), k.3.few_branches.1);
      few = (omega (arith, k.3.few.0, sum_by_push length bs cs), k.3.few.1);
    } in
    let sides = no_sides (m + l) (unset_in s) (unset_behind [] (local_places m l)) s.context.values
    s.value.values h.about.1.no_value k.4 in
    record {
      about = (
        (k.0, k.1, k.2, bodies, sides, k.5),
        h.about.1,
        omega (arith, long),
        refl,
        refl,
        h.about.3,
      );
      sum = none_safe (no_sum s.context.names) s.value.sum h.about.3
          (omega arith);
    }
