-- The analysis by the code's own setting, as that of the program.
--   forms_of s             the closed forms
--   are_forms, all_have    one for each branch
--   follow_run, follow_next, follow_past, same_length, follow_steps     runs, what comes next, what is past, what is too long, and closing divisions
--   square_of              the steps are square lists in the loop's variables
--   begun_here, begun_given      the analysis begins, at the starts or at what is given
--   IsAnalysisOf program s given     the setting s is that of the program, which is well formed, with what is given
--   basis_of, level_of, kept_of, closed_by, valid_of, is_stopped       what an analysis tells of the program
--   refused_stopped, refused_at        its refusal is one of the loop, where no map and no branch is refused
use Rattle.std.proofs.Common.{◌≡◌, inr, ℕ, suc, ◌<◌, ◌≤◌, ◌+◌, List, [], ◌∷◌, map, length, get_or, Option, Some, None, refl, sym, ap, ap₂, subst, ◌∙◌, arith, All}
use Rattle.std.specs.Global.{Vec}
use Rattle.std.proofs.lemmas.List.{get_or-map, length-map}
use Rattle.std.proofs.lemmas.List.Elements.{All-map}
use Rattle.algebra.specs.Fraction.{Fraction, rationals}
use Rattle.polynomials.specs.Order.{grevlex}
use Rattle.polynomials.specs.Terms.{Terms}
use Rattle.machines.specs.Collect.{collect}
use Rattle.machines.specs.Journal.{Entry, Journal}
use Rattle.machines.specs.Reduced.{IsReducedFor}
use Rattle.machines.specs.Run.{IsRun}
use Rattle.loops.specs.Certificate.{IsValid}
use Rattle.loops.specs.Inv.{Inv}
use Rattle.loops.specs.Map.{branch_map}
use Rattle.loops.specs.Program.{Expr, Program, Statement}
use Rattle.loops.specs.WellFormed.{IsWellFormed}
use Rattle.loop_model.specs.Maps.{AreFree}
use Rattle.loop_runs.proofs.Fits.{all_unmapped}
use Rattle.poly.specs.Seen.{terms_in, terms_each}
use Rattle.loop_model.specs.FracPoly.{FracPoly}
use Rattle.ideal_ops.specs.Calls.{AreOver}
use Rattle.rounds.specs.Analysis as analysis
use Rattle.rounds.specs.Analysis.{State, fresh, Step, finished, first_step, next, moves}
use Rattle.rounds.specs.BranchMap.{map_of}
use Rattle.rounds.specs.Form as form
use Rattle.rounds.specs.Form.{IsClosedForm}
use Rattle.rounds.specs.Journal.{AreForms, setting_from, FollowsFrom, IsFinishedBy}
use Rattle.rounds.specs.Kept.{IsKept}
use Rattle.rounds.specs.Results.{IsReducedList}
use Rattle.rounds.specs.Past.{IsPast}
use Rattle.rounds.specs.Start.{start_list}
use Rattle.rounds.proofs.Forms.{forms_are_one}
use Rattle.rounds.proofs.Invariants.{level_of_round, invariants_of_closed_round, first_closed_round}
use Rattle.rounds.proofs.Settings.{with_starts, alike_next, alike_run, alike_past}
use Rattle.rounds.proofs.Theorem.{finished_is, finished_from}
use Rattle.invariant_fix.specs.Answers.{AreShortFrom, IsClosedByFrom, IsLeastLevel, certificate_of}
use Rattle.invariant_fix.specs.Closing.{AreSteps, seen_branch_steps, seen_steps, HasSteps, IsSquare}
use Rattle.invariant_fix.specs.Coming.{Comes, Refuses}
use Rattle.invariant_fix.specs.Lists.{IsList}
use Rattle.expansion.specs.Counts.{most_terms}
use Rattle.invariant_fix.specs.Long.{task_length, IsLong, short_moves}
use Rattle.invariant_fix.specs.Refusals.{AllHaveForms, HasFollowedFrom, IsStoppedFrom, IsRefusedFrom}
use Rattle.invariant_fix.specs.Setting.{setting_of, given_of, most_first, form_of, FitsSetting, IsSettingOf}
use Rattle.invariant_fix.specs.Steps.{starting, started, closed}
use Rattle.invariant_fix.specs.declared.branches.Branch.{Branch}
use Rattle.invariant_fix.specs.declared.errors.AnalyseError.{AnalyseError}
use Rattle.invariant_fix.specs.declared.errors.AnalyseError.TheVariants as error
use Rattle.invariant_fix.specs.declared.found.Analysis.{Analysis}
use Rattle.invariant_fix.specs.declared.setting.Setting.{Setting}
use Rattle.invariant_fix.proofs.Certified.{closed_valid, row_long}
use Rattle.invariant_fix.proofs.Forms.{all_forms, item_at}
use Rattle.invariant_fix.proofs.Squares.{square_is}
use Rattle.invariant_fix.proofs.ShortRuns.{any_run, each_short}
use Rattle.invariant_fix.proofs.TaskLengths.{alike_length, fresh_short}
use Rattle.invariant_fix.proofs.Works.{collected_starts}

maps_same : (program : Program (Expr ℕ)) (bs : List (List (Statement (Expr ℕ)))) (cs : List Branch)
    → length cs ≡ length bs
    → ((b : ℕ) (d : Branch) → b < length bs → terms_each (get_or cs b d).images.items
    ≡ map (collect rationals grevlex) (branch_map program (get_or bs b [])))
    → map (λ (branch : List (Statement (Expr ℕ))). map (collect rationals grevlex)
    (branch_map program branch)) bs ≡ map (λ (c : Branch). terms_each c.images.items) cs
maps_same program [] [] e h = refl
maps_same program [] (c ∷ cs) e h = absurd (omega (arith, e))
maps_same program (x ∷ bs) [] e h = absurd (omega (arith, e))
maps_same program (x ∷ bs) (c ∷ cs) e h = ap₂ ◌∷◌ (sym (h 0 c (omega arith)))
    (maps_same program bs cs (omega (arith, e)) (λ b d l. h (suc b) d (omega (arith, l))))

-- where it begins
module _ (s : Setting) where
  first_here : (es : List Entry) → es ≡ []
      → Comes (setting_of s) es (first_step (setting_of s) (given_of s.given))
  unfolding next IsRun
  first_here es e = record {
    state = fresh;
    run = subst (λ l. IsRun (short_moves (setting_of s)) fresh l fresh) (sym e) refl;
    is = refl;
    short = fresh_short (setting_of s);
  }

  -- at the starts, or at what is given
  pub begun_here : s.given ≡ None → {es : List Entry} → es ≡ []
      → Comes (setting_of s) es (starting s)
  begun_here plain {es = es} e = subst (λ (o : Option (Vec FracPoly)).
      Comes (setting_of s) es (first_step (setting_of s) (given_of o))) plain (first_here es e)

  pub begun_given : {v : Vec FracPoly} → s.given ≡ Some v → (gs : List FracPoly)
      → terms_each v.items ≡ terms_each gs → {es : List Entry} → es ≡ []
      → Comes (setting_of s) es (started s gs)
  begun_given at gs same {es = es} e =
      subst (λ ts. Comes (setting_of s) es (first_step (setting_of s) (Some ts))) same
      (subst (λ (o : Option (Vec FracPoly)).
      Comes (setting_of s) es (first_step (setting_of s) (given_of o))) at (first_here es e))

module _ (program : Program (Expr ℕ)) (w : IsWellFormed program) (s : Setting)
    (fits : FitsSetting s)
    (is : IsSettingOf program s) where
  abbrev pub forms_of : List form.Form
  forms_of = map (λ (c : Branch). form_of c.form) s.branches.items

  forms_count : length forms_of ≡ length program.branches
  forms_count = length-map s.branches.items _ ∙ is.branches.count

  pub are_forms : AreForms program forms_of
  are_forms = record {
    count = forms_count;
    each = λ b d l.
        (let inside : b < length s.branches.items =
        omega (arith, l, length-map s.branches.items (λ (c : Branch). form_of c.form)) in
        let c = item_at s.branches.items b inside in
        subst (IsClosedForm program (suc b))
        (sym (get_or-map (λ (c : Branch). form_of c.form) s.branches.items b c d inside))
        (is.branches.each b c (let k = is.branches.count in omega (arith, inside, k))).form);
  }

  pub all_have : AllHaveForms program
  all_have = λ b l. all_forms program is.branches b l

  maps_are : map (λ (branch : List (Statement (Expr ℕ))). map (collect rationals grevlex)
      (branch_map program branch)) program.branches ≡ map (λ (c : Branch).
      terms_each c.images.items) s.branches.items
  unfolding map_of
  maps_are = maps_same program program.branches s.branches.items is.branches.count (λ b d l.
      (is.branches.each b d l).images)

-- the setting is that of the program, with what is given
pub record IsAnalysisOf (program : Program (Expr ℕ)) (s : Setting)
    (given : Option (List (Terms Fraction))) : Type 0 where
  pub formed : IsWellFormed program
  pub fits : FitsSetting s
  pub is : IsSettingOf program s
  pub given_is : given_of s.given ≡ given

module _ {program : Program (Expr ℕ)} {s : Setting} {given : Option (List (Terms Fraction))}
    (here : IsAnalysisOf program s given) where
  abbrev forms : List form.Form
  forms = forms_of program here.formed s here.fits here.is

  abbrev A : analysis.Setting
  A = setting_from program given forms None

  abbrev B : analysis.Setting
  B = with_starts (setting_of s) (start_list program)

  same : A ≡ B
  same = λ i. record {
    arity = sym here.is.arity i;
    starts = start_list program;
    maps = maps_are program here.formed s here.fits here.is i;
    forms = forms;
    given = sym here.given_is i;
    asked = None;
  }

  alike : map (collect rationals grevlex) (start_list program) ≡ map (collect rationals grevlex)
      (setting_of s).starts
  alike = sym (collected_starts here.fits s.starts.items here.fits.starts ∙ here.is.starts)

  follow_run : (es : List Entry) (t : State) → IsRun (moves (setting_of s)) fresh es t
      → IsRun (moves A) fresh es t
  follow_run es t r = subst (λ C. IsRun (moves C) fresh es t) (sym same)
      (alike_run (setting_of s) (start_list program) alike es fresh t r)

  follow_next : (t : State) {step : Step} → next (setting_of s) t ≡ step → next A t ≡ step
  follow_next t {step = step} e = subst (λ C. next C t ≡ step) (sym same)
      (alike_next (setting_of s) (start_list program) alike t ∙ e)

  follow_past : (t : State) → IsPast (setting_of s) t → IsPast A t
  follow_past t p = subst (λ C. IsPast C t) (sym same)
      (alike_past (setting_of s) (start_list program) alike t p)

  same_length : (t : State) → task_length A t ≡ task_length (setting_of s) t
  same_length t = ap (λ C. task_length C t) same
      ∙ alike_length (setting_of s) (start_list program) t

  back_run : (es : List Entry) (t : State) → IsRun (moves A) fresh es t
      → IsRun (moves (setting_of s)) fresh es t
  back_run es t r =
      alike_run B (setting_of s).starts (sym alike) es fresh t
      (subst (λ C. IsRun (moves C) fresh es t) same r)

  follow_steps : {gs : List (Terms Fraction)} {qs : List (List (List (Terms Fraction)))}
      → AreSteps (setting_of s) gs qs → AreSteps A gs qs
  follow_steps {gs = gs} {qs = qs} h = subst (λ C. AreSteps C gs qs) (sym same) (record {
    count = h.count;
    each = λ b l. record {
      count = (h.each b l).count;
      each = λ i k. (let c = (h.each b l).each i k in record {
        last = c.last;
        leads = c.leads;
        ended = c.ended;
        gone = c.gone;
        cofactors = c.cofactors;
      });
    };
  })

  -- the es lead to t, and no task on the way is too long
  short_of : (es : List Entry) (t : State) → IsRun (short_moves (setting_of s)) fresh es t
      → (IsLong (setting_of s) t → ⊥) → AreShortFrom program given es
  short_of es t r short fs gs u parts f long =
      let one = forms_are_one program f.forms forms f.are_forms
      (are_forms program here.formed s here.fits here.is) in
      each_short (setting_of s) fs gs fresh t u
      (subst (λ xs. IsRun (short_moves (setting_of s)) fresh xs t) parts r) short
      (back_run fs u
      (subst (λ xs. IsRun (moves (setting_from program given xs None)) fresh fs u) one f.run))
      (subst (λ n. most_terms < n) (same_length u)
      (subst (λ xs. IsLong (setting_from program given xs None) u) one long))

  follows : (es : List Entry) (t : State) → IsRun (short_moves (setting_of s)) fresh es t
      → FollowsFrom program given None es t
  follows es t r = record {
    forms = forms;
    are_forms = are_forms program here.formed s here.fits here.is;
    run = follow_run es t (any_run (setting_of s) fresh t es r);
  }

  -- ---- a finished analysis
  pub finished_of : {es : List Entry} {k : ℕ} {gs : List (Terms Fraction)}
      → Comes (setting_of s) es (finished k gs) → IsFinishedBy program given es k gs
  unfolding follows
  finished_of {es} {k} {gs} c =
      record { state = c.state; follows = follows es c.state c.run; is = follow_next c.state c.is }

  pub closed_by : (a : Analysis) {es : List Entry}
      → Comes (setting_of s) es (closed a.rounds a.basis.items)
      → HasSteps s a.basis.items a.steps.items → IsClosedByFrom program given a es
  unfolding finished_of
  closed_by a {es = es} c h = record {
    finished = finished_of c;
    steps = follow_steps h;
    short = short_of es c.state c.run c.short;
  }

  pub square_of : (a : Analysis) (I : Terms Fraction → Type 0)
      → IsReducedFor rationals grevlex (length program.names) (terms_each a.basis.items) I
      → HasSteps s a.basis.items a.steps.items
      → All (λ (rows : Vec (Vec FracPoly)). All (λ (row : Vec FracPoly). AreOver s.arity row.items)
      rows.items) a.steps.items
      → All (λ (rows : Vec (Vec FracPoly)). IsSquare (length program.names) (length a.basis.items)
      rows.items) a.steps.items
  square_of a I reduced h over = λ b rows within. (
      let gs = terms_each a.basis.items in
      let steps = follow_steps h in
      let counted = forms_count program here.formed s here.fits here.is in
      let size : length gs ≡ length a.basis.items = length-map a.basis.items terms_in in
      let count : length a.steps.items ≡ length program.branches =
      sym (length-map a.steps.items (λ (v : Vec (Vec FracPoly)). seen_branch_steps v.items))
      ∙ steps.count ∙ counted in
      let inside : b < length program.branches = omega (arith, within, count) in
      let seen_is : get_or (seen_steps a.steps.items) b [] ≡ seen_branch_steps
      (get_or a.steps.items b rows).items = get_or-map (λ (v : Vec (Vec FracPoly)).
      seen_branch_steps v.items) a.steps.items b rows [] within in
      let each = steps.each b (omega (arith, inside, counted)) in
      square_is (length program.names) (length a.basis.items) _
      (ap length (sym seen_is) ∙ each.count ∙ size) (λ i l. ap (λ xs. length (get_or xs i []))
      (sym seen_is) ∙ row_long program here.formed given forms counted gs I reduced b i inside
      (omega (arith, l, size)) (each.each i (omega (arith, l, size))) ∙ size) (subst
      (λ n. All (λ (row : Vec FracPoly). AreOver n row.items) (get_or a.steps.items b rows).items)
      here.is.arity (over b rows within)))

  pub comes_followed : {es : List Entry} (step : Step) → Comes (setting_of s) es step
      → HasFollowedFrom program given es
  comes_followed {es = es} step c =
      inr (record { state = c.state; follows = follows es c.state c.run })

  -- ---- a refusal
  pub refuses_followed : (after : Journal) (e : AnalyseError) → Refuses (setting_of s) after e
      → HasFollowedFrom program given after.entries
  refuses_followed after (error.Map e) h = absurd h
  refuses_followed after (error.Branch b e) h = absurd h
  refuses_followed after (error.Limit task) h =
      inr (record { state = h.state; follows = follows after.entries h.state h.run })
  refuses_followed after (error.Wide task) h =
      inr (record { state = h.state; follows = follows after.entries h.state h.run })
  refuses_followed after error.Budget h = comes_followed _ h.comes
  refuses_followed after error.Memory h =
      inr (record { state = h.state; follows = follows after.entries h.state h.run })

  pub is_stopped : (after : Journal) (e : AnalyseError) → Refuses (setting_of s) after e
      → IsStoppedFrom program given after e
  unfolding follows
  is_stopped after (error.Map e) h = absurd h
  is_stopped after (error.Branch b e) h = absurd h
  is_stopped after (error.Limit task) h = record {
    state = h.state;
    follows = follows after.entries h.state h.run;
    is_task = h.is_task;
    long = subst (λ n. most_terms < n) (sym (same_length h.state)) h.long;
  }
  is_stopped after (error.Wide task) h = record {
    state = h.state;
    follows = follows after.entries h.state h.run;
    is_task = h.is_task;
    past = follow_past h.state h.past;
  }
  is_stopped after error.Budget h = record {
    entry = h.entry;
    state = h.following;
    comes = record {
      state = h.comes.state;
      follows = follows after.entries h.comes.state h.comes.run;
      is = follow_next h.comes.state h.comes.is;
    };
    unit = h.unit;
    exhausted = h.exhausted;
  }
  is_stopped after error.Memory h =
      inr (record { state = h.state; follows = follows after.entries h.state h.run })

-- from the starts
module _ {program : Program (Expr ℕ)} {s : Setting} (here : IsAnalysisOf program s None) where
  module _ {es : List Entry} {k : ℕ} {gs : List (Terms Fraction)}
      (c : Comes (setting_of s) es (finished k gs)) where
    pub basis_of : IsReducedFor rationals grevlex (length program.names) gs (Inv program)
    basis_of = (finished_is program here.formed es k gs (finished_of here c)).2

    pub level_of : IsLeastLevel program k
    level_of =
        let f = finished_is program here.formed es k gs (finished_of here c) in
        let level = level_of_round program here.formed k gs f.0 in
        let all = invariants_of_closed_round program here.formed k gs f.0 f.1 in
        record {
          all = λ p. (
            (λ i. all.only p i.arity (level.all p i.arity i)),
            (λ i. level.only p i.arity (all.all p i.arity i)),
          );
          least = first_closed_round program here.formed k gs f.0;
        }

  pub valid_of : (a : Analysis) {es : List Entry}
      → Comes (setting_of s) es (closed a.rounds a.basis.items)
      → HasSteps s a.basis.items a.steps.items → IsValid program (certificate_of a)
  valid_of a c h =
      closed_valid program here.formed None (forms here)
      (forms_count program here.formed s here.fits here.is) (basis_of c) (follow_steps here h)

-- from the list that is given
pub kept_of : {program : Program (Expr ℕ)} {s : Setting} {firsts : List (Terms Fraction)}
    → IsAnalysisOf program s (Some firsts) → IsReducedList (length program.names) firsts
    → {es : List Entry} {k : ℕ} {gs : List (Terms Fraction)}
    → Comes (setting_of s) es (finished k gs)
    → IsReducedFor rationals grevlex (length program.names) gs (IsKept program firsts)
kept_of {program} {firsts = firsts} here reduced {es} {k} {gs} c =
    (finished_from program here.formed.some_branch firsts reduced es k gs (finished_of here c)).2

-- where no map and no branch is refused
pub refused_stopped : (program : Program (Expr ℕ)) (given : Option (List (Terms Fraction)))
    → AreFree program → AllHaveForms program → (before after : Journal) (e : AnalyseError)
    → IsStoppedFrom program given after e → IsRefusedFrom program given before after e
refused_stopped program given free forms before after (error.Map e) h = absurd h
refused_stopped program given free forms before after (error.Branch b e) h = absurd h
refused_stopped program given free forms before after (error.Limit task) h = (free, forms, h)
refused_stopped program given free forms before after (error.Wide task) h = (free, forms, h)
refused_stopped program given free forms before after error.Budget h = (free, forms, h)
refused_stopped program given free forms before after error.Memory h = h

pub refused_at : {program : Program (Expr ℕ)} {s : Setting}
    {given : Option (List (Terms Fraction))} → IsAnalysisOf program s given → AreFree program
    → (before after : Journal) (e : AnalyseError) → Refuses (setting_of s) after e
    → IsRefusedFrom program given before after e
refused_at {program} {s} {given} here free before after e h = refused_stopped program given free
    (all_have program here.formed s here.fits here.is) before after e (is_stopped here after e h)

-- ---- how many elements the basis has at most
pub few_at : (program : Program (Expr ℕ)) (s : Setting) → IsSettingOf program s → s.given ≡ None
    → (gs : List FracPoly) (units : ℕ) → IsList s.arity (most_first s.arity s.given) units gs
    → length gs ≤ length program.names + units
few_at program s is plain gs units k =
    let few = k.few in
    let most : most_first s.arity s.given ≡ s.arity = ap (most_first s.arity) plain in
    let arity = is.arity in
    omega (arith, few, most, arity)

pub few_given : (s : Setting) (v : Vec FracPoly) → s.given ≡ Some v → (firsts gs : List FracPoly)
    → terms_each v.items ≡ terms_each firsts → (units : ℕ)
    → IsList s.arity (most_first s.arity s.given) units gs → length gs ≤ length firsts + units
few_given s v at firsts gs same units k =
    let few = k.few in
    let most : most_first s.arity s.given ≡ length v.items = ap (most_first s.arity) at in
    let count : length v.items ≡ length firsts = sym (length-map v.items terms_in) ∙ ap length same
    ∙ length-map firsts terms_in in
    omega (arith, few, most, count)

-- ---- the list that is given, copied
over_same : (m : ℕ) (ps qs : List FracPoly) → map (λ (p : FracPoly). p.arity) ps
    ≡ map (λ (p : FracPoly). p.arity) qs → AreOver m qs → AreOver m ps
over_same m ps qs e a =
    let P : ℕ → Type 0 = λ k. k ≡ m in
    all_unmapped P (λ (p : FracPoly). p.arity) ps
    (subst (All P) (sym e) (All-map P (λ (p : FracPoly). p.arity) qs a))

pub given_list : (s : Setting) (v : Vec FracPoly) → s.given ≡ Some v → (firsts gs : List FracPoly)
    → terms_each v.items ≡ terms_each firsts → terms_each gs ≡ terms_each firsts
    → map (λ (p : FracPoly). p.arity) gs ≡ map (λ (p : FracPoly). p.arity) firsts
    → AreOver s.arity firsts → IsReducedList s.arity (terms_each firsts) → (units : ℕ)
    → IsList s.arity (most_first s.arity s.given) units gs
given_list s v at firsts gs copied same arities over reduced units = record {
  arity = over_same s.arity gs firsts arities over;
  reduced = subst (IsReducedList s.arity) (sym same) reduced;
  few = (
      let most : most_first s.arity s.given ≡ length v.items = ap (most_first s.arity) at in
      let a = length-map v.items terms_in in
      let b = length-map gs terms_in in
      let c : length (terms_each v.items) ≡ length (terms_each gs) =
      ap length (copied ∙ sym same) in
      omega (arith, most, a, b, c));
}
