-- The tasks of a trace as the code makes them.
--   told                            a refusal in a task
--   begun_refused                   of a task that has a stage, from its beginning on
--   start_next, start_known, start_stops     the start
--   orbit_next, orbit_known, orbit_units, orbit_stops     an orbit;  vars_at, orbit_over: its variables
--   meet_next, meet_known, meet_units, meet_stops         an intersection
use Rattle.std.proofs.Common.{◌≡◌, inl, inr, ℕ, suc, ◌<◌, ◌≤◌, List, [], ◌∷◌, ◌++◌, map, length, get_or, refl, sym, ap, ap₂, subst, ◌∙◌, arith}
use Rattle.std.proofs.lemmas.List.{get_or-map, length-map}
use Rattle.std.proofs.lemmas.List.Elements.{All-head, All-tail}
use Rattle.algebra.specs.Each.{Each}
use Rattle.algebra.specs.Fraction.{Fraction, ℚ, rationals}
use Rattle.polynomials.specs.Order.{grevlex}
use Rattle.polynomials.specs.Polynomial.{IsPolynomial}
use Rattle.polynomials.specs.Terms.{Terms}
use Rattle.machines.specs.Journal as journal
use Rattle.machines.specs.Journal.{Entry, Begin, Journal, units_of}
use Rattle.machines.specs.Machine.{Refusal, too_wide, out_of_units, out_of_memory}
use Rattle.machines.proofs.Lengths.{kept_made}
use Rattle.rounds.specs.Analysis as analysis
use Rattle.rounds.specs.Analysis.{Work, starts, orbit, meet}
use Rattle.rounds.specs.Form as form
use Rattle.rounds.specs.Form.{front, orbit_relations, pulled_back_by}
use Rattle.rounds.specs.Past.{IsPastComposed, IsPastOrbit, IsPastStarting, task_of_work}
use Rattle.rounds.proofs.RelationTerms.{relations_not_kept, blend_not_kept}
use Rattle.corollaries.specs.Full.{as_form}
use Rattle.corollaries.specs.Stage.{Stage}
use Rattle.poly.specs.Seen.{terms_in, terms_each}
use Rattle.journal.specs.View as view
use Rattle.journal.specs.View.{with_entry}
use Rattle.journal.specs.declared.Task as declared_task
use Rattle.divide.specs.Outcomes.{refusal_of}
use Rattle.divide.specs.declared.EngineError as engine
use Rattle.divide.specs.declared.EngineError.TheVariants as engine_error
use Rattle.loop_model.specs.FracPoly.{FracPoly}
use Rattle.ideal_ops.specs.Blending.{blend_of}
use Rattle.ideal_ops.specs.Calls.{AreOver}
use Rattle.corollaries.specs.Coming.{IsGoing, Comes, IsStopped, Refuses}
use Rattle.corollaries.specs.Making.{Eliminates, IsStageMade, IsStartMade, IsStartRefused}
use Rattle.corollaries.specs.Rounds.{behind, OrbitBegins, OrbitEnds, MeetBegins, MeetEnds}
use Rattle.corollaries.specs.Trace.{Results, no_results, goes, start_of, after_round}
use Rattle.corollaries.proofs.Sizes.{stage_few, start_few, stage_units}
use Rattle.corollaries.proofs.Staged.{stage_awaits, stage_refused}
use Rattle.corollaries.proofs.Starting.{start_awaits, start_refused}
use Rattle.corollaries.proofs.Tasks.{orbit_eliminates, meet_eliminates, task_stopped, task_lost, after_start}
use Rattle.coprime_base.specs.Sizes.{sizes}
use Rattle.task_lists.specs.Images.{IsStageIn}
use Rattle.task_lists.specs.declared.parts.FullStage.{FullStage}
use Rattle.invariant_fix.specs.Errors.{in_task}
use Rattle.invariant_fix.specs.Orbits.{numbers_of, vars_of, pulled_back_list, IsPastPulledBack}
use Rattle.invariant_fix.specs.Setting.{form_of, FitsSetting}
use Rattle.invariant_fix.specs.declared.branches.Branch.{Branch}
use Rattle.invariant_fix.specs.declared.setting.Setting.{Setting}
use Rattle.invariant_fix.proofs.Lists.{units_begun}
use Rattle.full_trace.specs.Tasks.{written_of, IsSettingIn, Stops, IfBegun, IsBegunRefused, Knows, fronts_of}

-- ---- refusals
pub told : (A : analysis.Setting) (R : ℕ) (t : declared_task.Task) (after : Journal)
    (e : engine.EngineError) → Refuses A R (view.task_of t) after (refusal_of e)
    → Stops A R after (in_task t e)
told A R t after engine_error.Wide h = h
told A R t after engine_error.Budget h = h
told A R t after engine_error.Memory h = h

entries_with : (before after : Journal) (e : Entry) → after ≡ with_entry before e
    → after.entries ≡ before.entries ++ e ∷ []
entries_with before after e h = ap (λ (j : Journal). j.entries) h

module _ (A : analysis.Setting) (R : ℕ) (d : Results) {w : Work} {k : ℕ}
    {hs : List (Terms Fraction)} (el : Eliminates A w k hs) {es : List Entry} (c : Comes A R es
    (goes (Begin (task_of_work w)) (start_of A d w))) (P : Type 0) (past : P → IsPastStarting A w)
  where
    pub begun_refused : (mid new : Journal) → mid.entries ≡ es ++ Begin (task_of_work w) ∷ []
        → (r : Refusal) → IsBegunRefused P k hs mid new r → Refuses A R (task_of_work w) new r
    begun_refused mid new at r (inl (same, p)) = go r p
      where
        go : (r : Refusal) → IfBegun P r → Refuses A R (task_of_work w) new r
        go too_wide p = subst (λ (j : Journal). IsStopped A R (task_of_work w) j.entries) (sym same)
            (subst (IsStopped A R (task_of_work w)) (sym at) (task_stopped A R d w es c (past p)))
        go out_of_units p = absurd p
        go out_of_memory p = subst (λ (j : Journal). IsGoing A R j.entries) (sym same)
            (subst (IsGoing A R) (sym at) (task_lost A R d w es c))
    begun_refused mid new at r (inr s) = stage_refused A R d w k hs el es c mid new at r s

-- ---- the start
module _ {s : Setting} (fits : FitsSetting s) {ps : List FracPoly} (ps_is : ps ≡ s.starts.items)
    (old : Journal) {mid : Journal} (new : Journal)
    (begin : mid ≡ with_entry old (Begin journal.Start)) where
  abbrev firsts : List (Terms Fraction)
  firsts = terms_each ps

  module _ (A : analysis.Setting) (R : ℕ) (i : IsSettingIn s A)
      (c : Comes A R old.entries (goes (Begin journal.Start) (start_of A no_results starts))) where
    starts_are : analysis.starting A starts ≡ terms_each ps
    starts_are = i.starts ∙ sym (ap terms_each ps_is)

    pub start_next : (out : List (Terms Fraction)) (links : List (List (Terms Fraction)))
        → IsStartMade firsts out links mid.entries new.entries
        → Comes A R new.entries (after_round A R (behind out links []) 0 out)
    start_next out links m =
        subst (Comes A R new.entries) (after_start A R (behind out links []) out)
        (start_awaits A R no_results firsts starts_are old.entries c out links new.entries
        (subst (λ es. IsStartMade firsts out links es new.entries)
        (entries_with old mid (Begin journal.Start) begin) m))

    pub start_stops : (t : declared_task.Task) → view.task_of t ≡ journal.Start
        → (e : engine.EngineError) → IsStartRefused firsts new (refusal_of e) mid
        → Stops A R new (in_task t e)
    start_stops t named e h = told A R t new e
        (subst (λ z. Refuses A R z new (refusal_of e)) (sym named)
        (start_refused A R no_results firsts starts_are old.entries c mid new
        (entries_with old mid (Begin journal.Start) begin) (refusal_of e) h))

  pub start_known : (out : List FracPoly) (links : List (List (Terms Fraction)))
      → IsStartMade firsts (terms_each out) links mid.entries new.entries
      → AreOver s.arity out → Knows s new out
  start_known out links m over = record {
    over = over;
    few = (let a = start_few firsts (terms_each out) links mid.entries new.entries m in
        let b = length-map ps terms_in in
        let c = length-map out terms_in in
        let d = fits.few_starts in
        let e = ap length ps_is in
        omega (arith, a, b, c, d, e));
  }

-- ---- an orbit
module _ {s : Setting} (fits : FitsSetting s) (place : ℕ) (within : place < length s.branches.items)
    {branch : Branch} (is : branch ≡ get_or s.branches.items place branch) where
  pub vars_at : vars_of branch ≡ s.arity
  vars_at = ap (λ (c : Branch). length c.images.items) is
      ∙ (fits.branches place branch within).count

  fronts_at : get_or (fronts_of s) place 0 ≡ front (numbers_of branch)
  fronts_at = get_or-map (λ (c : Branch). front (length (sizes c.form.base.items)))
      s.branches.items place branch 0 within
      ∙ ap (λ (c : Branch). front (length (sizes c.form.base.items))) (sym is)

  back_at : terms_each branch.back.items ≡ form.inverse_of_form (form_of branch.form)
  back_at = subst (λ (c : Branch). terms_each c.back.items ≡ form.inverse_of_form (form_of c.form))
      (sym is) (fits.branches place branch within).back

  pub orbit_over : (x : FullStage) → IsStageIn (front (numbers_of branch)) (vars_of branch) x
      → IsStageIn (get_or (fronts_of s) place 0) s.arity x
  orbit_over x h = subst (λ k. IsStageIn k s.arity x) (sym fronts_at)
      (subst (λ m. IsStageIn (front (numbers_of branch)) m x) vars_at h)

  module _ (gs : List FracPoly) where
    module _ (A : analysis.Setting) (i : IsSettingIn s A) where
      form_at : analysis.form_of A place ≡ as_form (written_of branch.form)
      form_at = ap (λ fs. get_or fs place (record { base = []; polys = []; since = 0 })) i.forms
          ∙ get_or-map (λ (c : Branch). as_form (written_of c.form)) s.branches.items place branch _
          within
          ∙ ap (λ (c : Branch). as_form (written_of c.form)) (sym is)

      front_at : analysis.front_of A place ≡ front (numbers_of branch)
      front_at = ap (λ (f : form.Form). form.orbit_front f A.arity) form_at

      orbit_begins : (k : ℕ) (hs : List (Terms Fraction))
          → analysis.starting A (orbit k place (terms_each gs) hs) ≡ pulled_back_list branch gs
      unfolding analysis.starting
      orbit_begins k hs = ap₂ (λ (f : form.Form) (m : ℕ). form.orbit_list f m (terms_each gs))
          form_at (i.arity ∙ sym vars_at)
          ∙ ap (λ ps. form.whole_orbit_list (numbers_of branch) (vars_of branch) ps (terms_each gs))
          (sym back_at)

      eliminates : (k : ℕ) (hs : List (Terms Fraction))
          → Eliminates A (orbit k place (terms_each gs) hs) (front (numbers_of branch))
          (pulled_back_list branch gs)
      eliminates k hs =
          subst (λ n. Eliminates A (orbit k place (terms_each gs) hs) n
          (pulled_back_list branch gs))
          front_at (subst (λ l. Eliminates A (orbit k place (terms_each gs) hs)
          (analysis.front_of A place) l) (orbit_begins k hs)
          (orbit_eliminates A k place (terms_each gs) hs))

      past_here : (k : ℕ) (hs : List (Terms Fraction)) → IsPastPulledBack branch gs
          → IsPastStarting A (orbit k place (terms_each gs) hs)
      past_here k hs p = inl (subst (λ (f : form.Form). IsPastOrbit f A.arity (terms_each gs))
          (sym form_at) (subst (λ ps. IsPastComposed ps (terms_each gs)) back_at p))

    module _ (k : ℕ) (old : Journal) {mid : Journal} (new : Journal) {n : ℕ} (named : n ≡ suc place)
        (begin : mid ≡ with_entry old (Begin (journal.Orbit k n))) where
      entries_are : mid.entries ≡ old.entries ++ Begin (journal.Orbit k (suc place)) ∷ []
      entries_are = entries_with old mid (Begin (journal.Orbit k n)) begin
          ∙ ap (λ j. old.entries ++ Begin (journal.Orbit k j) ∷ []) named

      module _ (A : analysis.Setting) (R : ℕ) (d : Results) (hs : List (Terms Fraction))
          (i : IsSettingIn s A) (c : OrbitBegins A R d old.entries k place (terms_each gs) hs) where
        pub orbit_next : (x : Stage) → IsStageMade (front (numbers_of branch))
            (pulled_back_list branch gs) x mid.entries new.entries
            → OrbitEnds A R d new.entries k place (terms_each gs) hs x
        orbit_next x m = stage_awaits A R d _
            (front (numbers_of branch)) (pulled_back_list branch gs) (eliminates A i k hs)
            old.entries
            c x new.entries (subst (λ es. IsStageMade (front (numbers_of branch))
            (pulled_back_list branch gs) x es new.entries) entries_are m)

        pub orbit_stops : (t : declared_task.Task) → view.task_of t ≡ journal.Orbit k n
            → (e : engine.EngineError) → IsBegunRefused (IsPastPulledBack branch gs)
            (front (numbers_of branch)) (pulled_back_list branch gs) mid new (refusal_of e)
            → Stops A R new (in_task t e)
        orbit_stops t is_task e h = told A R t new e
            (subst (λ z. Refuses A R z new (refusal_of e))
            (sym (is_task ∙ ap (journal.Orbit k) named))
            (begun_refused A R d (eliminates A i k hs) c
            (IsPastPulledBack branch gs) (past_here A i k hs) mid new entries_are (refusal_of e) h))

      module _ (x : Stage) (m : IsStageMade (front (numbers_of branch)) (pulled_back_list branch gs)
          x
          mid.entries new.entries) where
        pub orbit_units : units_of old.entries ≤ units_of new.entries
        orbit_units =
            let a = stage_units (front (numbers_of branch)) (pulled_back_list branch gs) x
            mid.entries
            new.entries m in
            let b = units_begun old mid (journal.Orbit k n) begin in
            omega (arith, a, b)

        pub orbit_known : (out : List FracPoly) → terms_each out ≡ x.out
            → AreOver (vars_of branch) out → Knows s old gs → Knows s new out
        orbit_known out same over kg = record {
          over = subst (λ j. AreOver j out) vars_at over;
          few = (let r = numbers_of branch in
              let v = vars_of branch in
              let pulled = pulled_back_by r v (terms_each branch.back.items) in
              let a = stage_few (front r) (pulled_back_list branch gs) x mid.entries new.entries
              m in
              let few = kept_made rationals (front r) (map pulled (terms_each gs))
              (orbit_relations r v) (relations_not_kept r v) in
              let b = length-map (terms_each gs) pulled in
              let c = length-map gs terms_in in
              let e = length-map out terms_in in
              let g = ap length same in
              let h = units_begun old mid (journal.Orbit k n) begin in
              let u = kg.few in
              let l = orbit_units in
              omega (arith, a, few, b, c, e, g, h, u, l));
        }

-- ---- an intersection
polynomials : (m : ℕ) (ps : List FracPoly) → AreOver m ps
    → Each (IsPolynomial ℚ grevlex m) (terms_each ps)
unfolding Each
polynomials m [] a = tt
polynomials m (p ∷ ps) a = (
  subst (λ n. IsPolynomial ℚ grevlex n (terms_in p))
      (All-head (λ (q : FracPoly). q.arity ≡ m) p ps a) p.polynomial,
  polynomials m ps (All-tail (λ (q : FracPoly). q.arity ≡ m) p ps a),
)

module _ (s : Setting) (place : ℕ) (us vs : List FracPoly) (k : ℕ) (old : Journal) {mid : Journal}
    (new : Journal) {n : ℕ} (named : n ≡ suc place)
    (begin : mid ≡ with_entry old (Begin (journal.Meet k n))) where
  meet_entries : mid.entries ≡ old.entries ++ Begin (journal.Meet k (suc place)) ∷ []
  meet_entries = entries_with old mid (Begin (journal.Meet k n)) begin
      ∙ ap (λ j. old.entries ++ Begin (journal.Meet k j) ∷ []) named

  module _ (A : analysis.Setting) (R : ℕ) (d : Results) (gs : List (Terms Fraction))
      (c : MeetBegins A R d old.entries k place gs (terms_each us) (terms_each vs)) where
    abbrev W : Work
    W = meet k place gs (terms_each us) (terms_each vs)

    meet_begins : analysis.starting A (meet k place gs (terms_each us) (terms_each vs))
        ≡ blend_of us vs
    unfolding analysis.starting
    meet_begins = refl

    meet_eliminated : Eliminates A W 1 (blend_of us vs)
    meet_eliminated = subst (Eliminates A W 1) meet_begins
        (meet_eliminates A k place gs (terms_each us) (terms_each vs))

    pub meet_next : (x : Stage) → IsStageMade 1 (blend_of us vs) x mid.entries new.entries
        → MeetEnds A R d new.entries k place gs (terms_each us) (terms_each vs) x
    meet_next x m = stage_awaits A R d W 1 (blend_of us vs) meet_eliminated old.entries c x
        new.entries (subst (λ es. IsStageMade 1 (blend_of us vs) x es new.entries) meet_entries m)

    pub meet_stops : (t : declared_task.Task) → view.task_of t ≡ journal.Meet k n
        → (e : engine.EngineError)
        → IsBegunRefused ⊥ 1 (blend_of us vs) mid new (refusal_of e)
        → Stops A R new (in_task t e)
    meet_stops t is_task e h = told A R t new e
        (subst (λ z. Refuses A R z new (refusal_of e)) (sym (is_task ∙ ap (journal.Meet k) named))
        (begun_refused A R d meet_eliminated c ⊥
        (λ z. absurd z) mid new meet_entries (refusal_of e) h))

  module _ (x : Stage) (m : IsStageMade 1 (blend_of us vs) x mid.entries new.entries) where
    pub meet_units : units_of old.entries ≤ units_of new.entries
    meet_units =
        let a = stage_units 1 (blend_of us vs) x mid.entries new.entries m in
        let b = units_begun old mid (journal.Meet k n) begin in
        omega (arith, a, b)

    pub meet_known : {out : List FracPoly} → terms_each out ≡ x.out → AreOver s.arity out
        → AreOver s.arity vs → Knows s new out
    meet_known {out = out} same over behind_ = record {
      over = over;
      few = (let a = stage_few 1 (blend_of us vs) x mid.entries new.entries m in
          let few = kept_made rationals 1 [] _ (blend_not_kept s.arity (terms_each us)
          (terms_each vs) (polynomials s.arity vs behind_)) in
          let e = length-map out terms_in in
          let g = ap length same in
          omega (arith, a, few, e, g));
    }
