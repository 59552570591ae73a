-- The tasks of an analysis as the code begins and ends them: the start, a meet, an orbit along a branch, an iteration.
--   start_way, orbit_way, iteration_way, meet_way     what the layer below does, in the words of the analysis
--   start_next, start_list_known, start_refused    the first task
--   IsBegun w t old mid n          for the branch w the task t has begun, which names it by its number n, counted from 1
--   met_next, met_known, met_units, met_refused    a meet
--   iteration_met_next, iteration_met_known, iteration_met_units, iteration_met_refused     that with an iteration
--   form_at, since_at, map_at          the form of a branch, from where on it is the state, and its map
--   orbit_next, orbit_known, whole_known, orbit_units, orbit_long, orbit_refused    an orbit
--   iteration_next, iteration_known, iteration_units, iteration_long, iteration_refused        an iteration
use Rattle.std.proofs.Common.{◌≡◌, ◌⊎◌, inl, inr, ℕ, suc, ◌+◌, ◌*◌, ◌<◌, ◌≤◌, List, [], ◌∷◌, map, length, get_or, None, Option, refl, sym, ap, ap₂, subst, subst₂, ◌∙◌, arith}
use Rattle.std.specs.Global.{Vec}
use Rattle.std.proofs.lemmas.List.Elements.{All-tail}
use Rattle.std.proofs.lemmas.List.{get_or-map, length-map, append-nil}
use Rattle.algebra.proofs.In.{each_from}
use Rattle.algebra.specs.Fraction.{Fraction, ℚ, rationals, fractions}
use Rattle.algebra.proofs.Fractions.{ℚ_field}
use Rattle.polynomials.proofs.Orders.{grevlex_order}
use Rattle.polynomials.proofs.Same.{Same-refl}
use Rattle.polynomials.specs.Order.{grevlex, blocks}
use Rattle.polynomials.specs.Terms.{Terms}
use Rattle.machines.specs.Collect.{collect}
use Rattle.machines.specs.Elimination as elimination
use Rattle.machines.specs.Elimination.{free_part, blend}
use Rattle.machines.proofs.Collecting.{collect-is}
use Rattle.machines.specs.Journal as journal
use Rattle.machines.specs.Journal.{Begin, Journal, units_of}
use Rattle.poly.specs.Seen.{terms_in, terms_each}
use Rattle.divide.specs.declared.EngineError as engine
use Rattle.divide.specs.Outcomes.{refusal_of}
use Rattle.journal.specs.View.{with_entry}
use Rattle.journal.specs.declared.Task.TheVariants as task
use Rattle.rounds.specs.Analysis as analysis
use Rattle.rounds.specs.Analysis.{Work, starts, iteration, iteration_meet, orbit, meet, starting, block}
use Rattle.rounds.specs.Form as form
use Rattle.rounds.specs.Past.{IsPastStarting, IsPastOrbit, IsPastIteration}
use Rattle.rounds.specs.Results.{IsReducedList}
use Rattle.rounds.proofs.Lawful.{kept-nothing}
use Rattle.ideal_ops.specs.Calls as ideal
use Rattle.ideal_ops.specs.Calls.{Way, elimination_of, IsListOf, IsSum, IsIntersection, AreOver}
use Rattle.machines.specs.Machine.{done, stopped, Ran}
use Rattle.machines.specs.Past.{IsPastStart}
use Rattle.loop_model.specs.FracPoly.{FracPoly}
use Rattle.invariant_fix.specs.Coming.{Comes, Refuses}
use Rattle.invariant_fix.specs.Errors.{in_task}
use Rattle.invariant_fix.specs.Lists.{IsList}
use Rattle.expansion.specs.Counts.{most_terms}
use Rattle.invariant_fix.specs.Long.{orbit_length, iteration_length, work_length}
use Rattle.invariant_fix.specs.Orbits.{orbit_front_of, orbit_list_of, pulling_back, orbit_of, turning, iteration_of}
use Rattle.invariant_fix.specs.Setting.{setting_of, most_first, form_of, FitsSetting, FitsBranch}
use Rattle.invariant_fix.specs.InWork.{IsInWork, Awaits, Knows, KnowsIterations, Stops, orbiting, orbited, meeting, met, iteration_begins, iteration_ends, iteration_meets, iteration_met}
use Rattle.invariant_fix.specs.Steps.{Follow, HasWhole, starting as start_step, started}
use Rattle.invariant_fix.specs.declared.branch_in_work.BranchInWork.{BranchInWork}
use Rattle.invariant_fix.specs.declared.branches.Branch.{Branch}
use Rattle.invariant_fix.specs.declared.errors.AnalyseError.TheVariants.{Limit}
use Rattle.invariant_fix.specs.declared.setting.Setting.{Setting}
use Rattle.invariant_fix.proofs.Lists.{units_begun, list_bound, units_follow, start_reduced, meet_reduced, known, turned_more}
use Rattle.machines.proofs.Lengths.{made, NothingKept, kept_made}
use Rattle.rounds.proofs.RelationTerms.{blend_not_kept}
use Rattle.rounds.proofs.Few.{whole_few, orbit_few, iteration_few}
use Rattle.invariant_fix.proofs.TaskLengths.{orbit_is, iteration_is, starts_few, meet_few, iteration_meet_few}
use Rattle.invariant_fix.proofs.Tasks.{way_of, past_start, IsUnderWay, task_ended, task_long, task_refused}

-- ---- the first task
module _ {s : Setting} (fits : FitsSetting s) where
  pub collected_starts : (ps : List FracPoly) → AreOver s.arity ps
      → map (collect rationals grevlex) (terms_each ps) ≡ terms_each ps
  collected_starts [] a = refl
  collected_starts (p ∷ ps) a =
      ap₂ ◌∷◌ (sym (itself p)) (collected_starts ps (All-tail (λ (q : FracPoly). q.arity ≡ s.arity)
      p ps a))
    where
      itself : (p : FracPoly) → terms_in p ≡ collect rationals grevlex (terms_in p)
      itself p = collect-is ℚ_field grevlex grevlex_order p.arity (terms_in p) (terms_in p)
          p.polynomial.arity p.polynomial (Same-refl ℚ (terms_in p))

  module _ {ps : List FracPoly} (given : ps ≡ s.starts.items) where
    own_way : ideal.sum_way s.starts.items [] ≡ way_of (setting_of s) starts
    unfolding starting block
    own_way = λ i. record {
      order = grevlex;
      part = λ gs. sym (kept-nothing gs) i;
      gens = (append-nil (terms_each s.starts.items)
          ∙ sym (collected_starts s.starts.items fits.starts)) i;
    }

    start_way : ideal.sum_way ps [] ≡ way_of (setting_of s) starts
    start_way = ap (λ (qs : List FracPoly). ideal.sum_way qs []) given ∙ own_way

    module _ (old : Journal) {mid : Journal} (new : Journal)
        (begun : mid ≡ with_entry old (Begin journal.Start)) where
      start_here : IsUnderWay (setting_of s) starts (ideal.sum_way ps [])
          (elimination_of (ideal.sum_way ps [])).IsPastStart old mid
      start_here = record {
        begun = begun;
        way = start_way;
        past = λ p. past_start (setting_of s) starts
            (subst (λ (V : Way fractions). IsPastStart fractions rationals V.gens) start_way p);
      }

      abbrev Started : Vec FracPoly → Type 0
      Started gs = Ran (elimination_of (ideal.sum_way ps [])) (IsListOf (ideal.sum_way ps []))
          mid new (done gs)

      pub start_next : Comes (setting_of s) old.entries (start_step s) → (gs : Vec FracPoly)
          → Started gs → Comes (setting_of s) new.entries (started s gs.items)
      start_next c gs h = task_ended start_here c (starts_few (setting_of s)) gs h

      pub start_known : s.given ≡ None → (gs : Vec FracPoly) → Started gs → IsSum ps [] gs.items
          → IsList s.arity (most_first s.arity s.given) (units_of new.entries) gs.items
      unfolding starting block NothingKept
      start_known plain gs h i =
          let bound = list_bound start_here gs h in
          let few =
          kept_made rationals 0 (map (collect rationals grevlex) (terms_each s.starts.items)) []
          tt in
          let none = ap (λ l. length (free_part 0 (made rationals 0 l)))
          (append-nil (map (collect rationals grevlex) (terms_each s.starts.items))) in
          let a = length-map (terms_each s.starts.items) (collect rationals grevlex) in
          let b = length-map s.starts.items terms_in in
          let d = fits.few_starts in
          subst (λ (o : Option (Vec FracPoly)). IsList s.arity (most_first s.arity o)
          (units_of new.entries) gs.items) (sym plain) (known s.arity (units_of new.entries)
          (start_reduced s.arity ps gs.items (subst (AreOver s.arity) (sym given) fits.starts) i)
          (omega (arith, bound, few, none, a, b, d)))

      pub start_refused : Comes (setting_of s) old.entries (start_step s)
          → {R : Type 0} {G : R → elimination.State Fraction → Type 0} (e : engine.EngineError)
          → Ran (elimination_of (ideal.sum_way ps [])) G mid new (stopped (refusal_of e))
          → Refuses (setting_of s) new (in_task task.Start e)
      start_refused c e r =
          task_refused start_here c (starts_few (setting_of s)) task.Start refl e r

-- ---- what a task begins with
pub record IsBegun (w : BranchInWork) (t : ℕ → journal.Task) (old mid : Journal) (n : ℕ)
    : Type 0 where
  pub at : IsInWork w old
  pub named : n ≡ suc w.place
  pub begun : mid ≡ with_entry old (Begin (t n))

pub begun_as : {w : BranchInWork} {t : ℕ → journal.Task} {old mid : Journal} {n : ℕ}
    → IsInWork w old → n ≡ suc w.place → mid ≡ with_entry old (Begin (t n)) → IsBegun w t old mid n
begun_as at named begun = record { at = at; named = named; begun = begun }

begun_here : {w : BranchInWork} {t : ℕ → journal.Task} {old mid : Journal} {n : ℕ}
    → IsBegun w t old mid n → mid ≡ with_entry old (Begin (t (suc w.place)))
begun_here {w} {t} {old} {mid} {n} h = h.begun ∙ ap (λ j. with_entry old (Begin (t j))) h.named

-- ---- a meet of two lists, as a work that begins with that of their intersection
module _ (w : BranchInWork) (hs ks : List FracPoly) {here : Work} {old mid new : Journal}
    (u : IsUnderWay (setting_of w.setting.now) here (ideal.intersection_way hs ks)
    (elimination_of (ideal.intersection_way hs ks)).IsPastStart old mid) (kh : Knows w old hs)
    {more : ℕ} (kk : IsList w.setting.now.arity more (units_of old.entries) ks) where
  known_meet : block (setting_of w.setting.now) here ≡ 1 → starting (setting_of w.setting.now) here
      ≡ blend rationals (blocks 1 grevlex grevlex) (terms_each hs) (terms_each ks)
      → (ls : Vec FracPoly) → Ran (elimination_of (ideal.intersection_way hs ks))
      (IsListOf (ideal.intersection_way hs ks)) mid new (done ls)
      → IsIntersection hs ks ls.items → Knows w new ls.items
  known_meet one gens ls r i =
      let s = w.setting.now in
      let bound = list_bound u ls r in
      let same = ap₂ (λ k l. length (free_part k (made rationals k l))) one gens in
      let few = kept_made rationals 1 [] _ (blend_not_kept s.arity (terms_each hs)
      (terms_each ks) (each_from (terms_each ks) kk.reduced.polynomials)) in
      known (most_first s.arity s.given) (units_of new.entries)
      (meet_reduced s.arity hs ks ls.items kh.arity kk.arity i) (omega (arith, bound, same, few))

-- ---- a meet with an orbit
module _ {w : BranchInWork} {old mid : Journal} {n : ℕ}
    (h : IsBegun w (journal.Meet w.round) old mid n) (hs ks : List FracPoly) (new : Journal) where
  meet_here : IsUnderWay (setting_of w.setting.now)
      (meet w.round w.place (terms_each w.basis.now) (terms_each hs) (terms_each ks))
      (ideal.intersection_way hs ks) (elimination_of (ideal.intersection_way hs ks)).IsPastStart
      old mid
  unfolding starting block
  meet_here = record { begun = begun_here h; way = refl; past = λ p. inr (inr p) }

  meet_short : most_terms < work_length (setting_of w.setting.now)
      (meet w.round w.place (terms_each w.basis.now) (terms_each hs) (terms_each ks)) → ⊥
  meet_short = meet_few (setting_of w.setting.now) w.round w.place (terms_each w.basis.now)
      (terms_each hs) (terms_each ks)

  module _ (ls : Vec FracPoly) (r : Ran (elimination_of (ideal.intersection_way hs ks))
      (IsListOf (ideal.intersection_way hs ks)) mid new (done ls)) where
    pub met_next : Awaits w old (meeting w hs ks) → Awaits w new (met w hs ks ls.items)
    met_next c = task_ended meet_here c meet_short ls r

    pub met_known : Knows w old hs → {more : ℕ}
        → IsList w.setting.now.arity more (units_of old.entries) ks → IsIntersection hs ks ls.items
        → Knows w new ls.items
    unfolding starting block
    met_known kh kk i = known_meet w hs ks meet_here kh kk refl refl ls r i

    pub met_units : Follow old new
    met_units = units_follow meet_here ls r

  pub met_refused : Awaits w old (meeting w hs ks)
      → {R : Type 0} {G : R → elimination.State Fraction → Type 0} (e : engine.EngineError)
      → Ran (elimination_of (ideal.intersection_way hs ks)) G mid new (stopped (refusal_of e))
      → Stops w new (in_task (task.Meet w.round n) e)
  met_refused c e r = task_refused meet_here c meet_short (task.Meet w.round n)
      (ap (journal.Meet w.round) h.named) e r

-- ---- a meet with an iteration
abbrev pub iteration_at : ℕ → ℕ → ℕ → journal.Task
iteration_at k i n = journal.Iteration k n (i + 1)

abbrev pub iteration_meet_at : ℕ → ℕ → ℕ → journal.Task
iteration_meet_at k i n = journal.IterationMeet k n (i + 1)

after_one : (i : ℕ) → i + 1 ≡ suc i
after_one i = omega arith

module _ {w : BranchInWork} {old mid : Journal} {n : ℕ} (i : ℕ)
    (h : IsBegun w (iteration_meet_at w.round i) old mid n) (hs ks : List FracPoly)
    (new : Journal) where
  iteration_meet_here : IsUnderWay (setting_of w.setting.now)
      (iteration_meet w.round w.place i (terms_each w.basis.now) (terms_each hs) (terms_each ks))
      (ideal.intersection_way hs ks) (elimination_of (ideal.intersection_way hs ks)).IsPastStart
      old mid
  unfolding starting block
  iteration_meet_here = record {
    begun = begun_here h ∙ ap (λ j. with_entry old
        (Begin (journal.IterationMeet w.round (suc w.place) j))) (after_one i);
    way = refl;
    past = λ p. inr (inr p);
  }

  iteration_meet_short : most_terms < work_length (setting_of w.setting.now)
      (iteration_meet w.round w.place i (terms_each w.basis.now) (terms_each hs) (terms_each ks))
      → ⊥
  iteration_meet_short = iteration_meet_few (setting_of w.setting.now) w.round w.place i
      (terms_each w.basis.now) (terms_each hs) (terms_each ks)

  module _ (ls : Vec FracPoly) (r : Ran (elimination_of (ideal.intersection_way hs ks))
      (IsListOf (ideal.intersection_way hs ks)) mid new (done ls)) where
    pub iteration_met_next : Awaits w old (iteration_meets w i hs ks)
        → Awaits w new (iteration_met w i hs ks ls.items)
    iteration_met_next c = task_ended iteration_meet_here c iteration_meet_short ls r

    pub iteration_met_known : Knows w old hs → {more : ℕ}
        → IsList w.setting.now.arity more (units_of old.entries) ks → IsIntersection hs ks ls.items
        → Knows w new ls.items
    unfolding starting block
    iteration_met_known kh kk met = known_meet w hs ks iteration_meet_here kh kk refl refl ls r met

    pub iteration_met_units : Follow old new
    iteration_met_units = units_follow iteration_meet_here ls r

  pub iteration_met_refused : Awaits w old (iteration_meets w i hs ks)
      → {R : Type 0} {G : R → elimination.State Fraction → Type 0} (e : engine.EngineError)
      → Ran (elimination_of (ideal.intersection_way hs ks)) G mid new (stopped (refusal_of e))
      → Stops w new (in_task (task.IterationMeet w.round n (i + 1)) e)
  iteration_met_refused c e r = task_refused iteration_meet_here c iteration_meet_short
      (task.IterationMeet w.round n (i + 1))
      (ap₂ (journal.IterationMeet w.round) h.named (after_one i)) e r

-- ---- an orbit, and an iteration
module _ {w : BranchInWork} {old : Journal} (at : IsInWork w old) (branch : Branch)
    (is : branch ≡ get_or w.setting.now.branches.items w.place branch) where
  abbrev s : Setting
  s = w.setting.now

  abbrev place : ℕ
  place = w.place

  abbrev k : ℕ
  k = w.round

  form_at : analysis.form_of (setting_of s) place ≡ form_of branch.form
  form_at = get_or-map (λ (c : Branch). form_of c.form) s.branches.items place branch _ at.place
      ∙ ap (λ (c : Branch). form_of c.form) (sym is)

  pub since_at : (analysis.form_of (setting_of s) place).since ≡ branch.form.since
  since_at = ap (λ (f : form.Form). f.since) form_at

  fits_at : FitsBranch s.arity branch
  fits_at = subst (FitsBranch s.arity) (sym is) (at.fits.branches place branch at.place)

  vars_at : length branch.images.items ≡ s.arity
  vars_at = fits_at.count

  map_at : get_or (setting_of s).maps place [] ≡ terms_each branch.images.items
  map_at = get_or-map (λ (c : Branch). terms_each c.images.items) s.branches.items place branch []
      at.place ∙ ap (λ (c : Branch). terms_each c.images.items) (sym is)

  polys_count : length (form_of branch.form).polys ≡ length branch.images.items
  polys_count = length-map branch.form.polys.items _ ∙ fits_at.form_count ∙ sym vars_at

  -- ---- an orbit
  module _ {mid : Journal} {n : ℕ} (h : IsBegun w (journal.Orbit w.round) old mid n)
      (new : Journal) where
    abbrev gs : List FracPoly
    gs = w.basis.now

    orbit_way : (hs : List (Terms Fraction)) → pulling_back branch gs ≡ way_of (setting_of s)
        (orbit k place (terms_each gs) hs)
    unfolding starting block
    orbit_way hs =
        ap₂ (λ (f : form.Form) (m : ℕ). let w : ideal.Way fractions =
        record {
          order = blocks (form.orbit_front f m) grevlex grevlex;
          part = free_part (form.orbit_front f m);
          gens = form.orbit_list f m (terms_each gs);
        } in w) (sym form_at) vars_at

    abbrev pub IsShortOrbit : Type 0
    IsShortOrbit = most_terms
        < orbit_length (form_of branch.form) (length branch.images.items) (terms_each gs) → ⊥

    orbit_size : (hs : List (Terms Fraction))
        → orbit_length (form_of branch.form) (length branch.images.items) (terms_each gs)
        ≡ work_length (setting_of s) (orbit k place (terms_each gs) hs)
    orbit_size hs =
        ap₂ (λ (f : form.Form) m. orbit_length f m (terms_each gs)) (sym form_at) vars_at
        ∙ orbit_is (setting_of s) k place (terms_each gs) hs

    few_orbit : IsShortOrbit → (hs : List (Terms Fraction))
        → most_terms < work_length (setting_of s) (orbit k place (terms_each gs) hs) → ⊥
    few_orbit few hs l = few (subst (λ x. most_terms < x) (sym (orbit_size hs)) l)

    past_here : (orbit_of branch gs).IsPastStart → (hs : List (Terms Fraction))
        → IsPastStarting (setting_of s) (orbit k place (terms_each gs) hs)
    past_here (inl p) hs =
        inl (subst₂ (λ (f : form.Form) m. IsPastOrbit f m (terms_each gs)) (sym form_at) vars_at p)
    past_here (inr p) hs =
        inr (subst (λ (V : Way fractions). IsPastStart fractions rationals V.gens) (orbit_way hs) p)

    orbit_here : (hs : List (Terms Fraction)) → IsUnderWay (setting_of s)
        (orbit k place (terms_each gs) hs) (pulling_back branch gs)
        (orbit_of branch gs).IsPastStart old mid
    orbit_here hs = record { begun = begun_here h; way = orbit_way hs; past = λ p. past_here p hs }

    pub orbit_next : IsShortOrbit → (hs : List (Terms Fraction))
        → Awaits w old (orbiting w hs) → (ls : Vec FracPoly)
        → Ran (orbit_of branch gs) (IsListOf (pulling_back branch gs)) mid new (done ls)
        → Awaits w new (orbited w hs ls.items)
    orbit_next few hs c ls r = task_ended (orbit_here hs) c (few_orbit few hs) ls r

    module _ (ls : Vec FracPoly) (r : Ran (orbit_of branch gs) (IsListOf (pulling_back branch gs))
        mid new (done ls)) where
      pub orbit_units : Follow old new
      orbit_units = units_follow (orbit_here []) ls r

      orbit_bound : length ls.items + units_of mid.entries
          ≤ length (free_part (orbit_front_of branch)
          (made rationals (orbit_front_of branch) (orbit_list_of branch gs))) + units_of new.entries
      unfolding starting block
      orbit_bound =
          let bound = list_bound (orbit_here []) ls r in
          let same = ap₂ (λ (f : form.Form) m. length (free_part (form.orbit_front f m)
          (made rationals (form.orbit_front f m) (form.orbit_list f m (terms_each gs)))))
          (sym form_at) vars_at in
          omega (arith, bound, same)

      module _ (over : AreOver (length branch.images.items) ls.items)
          (reduced : IsReducedList (length branch.images.items) (terms_each ls.items)) where
        parts : (ls.items ≡ []) ⊎ (AreOver s.arity ls.items
            × IsReducedList s.arity (terms_each ls.items))
        parts = inr (
          subst (λ m. AreOver m ls.items) vars_at over,
          subst (λ m. IsReducedList m (terms_each ls.items)) vars_at reduced,
        )

        pub orbit_known : KnowsIterations w 1 new ls.items
        orbit_known =
            let few = orbit_few (form_of branch.form) (length branch.images.items) (terms_each gs)
            polys_count in
            let bound = orbit_bound in
            let b = length-map gs terms_in in
            let d = units_begun old mid (journal.Orbit k n) h.begun in
            let e = at.basis.few in
            let v = vars_at in
            let one : s.arity * 1 ≡ s.arity = omega arith in
            known _ (units_of new.entries) parts (omega (arith, bound, few, b, d, e, v, one))

        pub whole_known : HasWhole s place → Knows w new ls.items
        whole_known at_once =
            let few = whole_few (form_of branch.form) (length branch.images.items) (terms_each gs)
            (sym since_at ∙ at_once) in
            let bound = orbit_bound in
            let b = length-map gs terms_in in
            let d = units_begun old mid (journal.Orbit k n) h.begun in
            let e = at.basis.few in
            known (most_first s.arity s.given) (units_of new.entries) parts
            (omega (arith, bound, few, b, d, e))

    pub orbit_long : (hs : List (Terms Fraction)) → Awaits w old (orbiting w hs)
        → most_terms < orbit_length (form_of branch.form) (length branch.images.items)
        (terms_each gs) → Stops w mid (Limit (task.Orbit k n))
    orbit_long hs c l = task_long (orbit_here hs) c
        (subst (λ x. most_terms < x) (orbit_size hs) l) (task.Orbit k n)
        (ap (journal.Orbit k) h.named)

    pub orbit_refused : IsShortOrbit → (hs : List (Terms Fraction)) → Awaits w old (orbiting w hs)
        → {R : Type 0} {G : R → elimination.State Fraction → Type 0} (e : engine.EngineError)
        → Ran (orbit_of branch gs) G mid new (stopped (refusal_of e))
        → Stops w new (in_task (task.Orbit k n) e)
    orbit_refused few hs c e r = task_refused (orbit_here hs) c (few_orbit few hs)
        (task.Orbit k n) (ap (journal.Orbit k) h.named) e r

  -- ---- an iteration
  module _ {mid : Journal} {n : ℕ} (i : ℕ) (h : IsBegun w (iteration_at w.round i) old mid n)
      (ks : List FracPoly) (new : Journal) where
    abbrev iterating : List (Terms Fraction) → Work
    iterating hs = iteration k place i (terms_each w.basis.now) (terms_each ks) hs

    iteration_way : (hs : List (Terms Fraction))
        → turning branch ks ≡ way_of (setting_of s) (iterating hs)
    unfolding starting block
    iteration_way hs =
        let here : (f : form.Form) → (m : ℕ) → List (Terms Fraction) → ideal.Way fractions =
        λ f m images. record {
          order = blocks (form.iteration_front f m) grevlex grevlex;
          part = free_part (form.iteration_front f m);
          gens = form.iteration_list f m images (terms_each ks);
        } in
        ap₂ (λ f m. here f m (terms_each branch.images.items)) (sym form_at) vars_at
        ∙ ap (here (analysis.form_of (setting_of s) place) s.arity) (sym map_at)

    abbrev pub IsShortIteration : Type 0
    IsShortIteration = most_terms < iteration_length (form_of branch.form)
        (length branch.images.items) (terms_each branch.images.items) (terms_each ks) → ⊥

    iteration_size : (hs : List (Terms Fraction))
        → iteration_length (form_of branch.form) (length branch.images.items)
        (terms_each branch.images.items) (terms_each ks) ≡ work_length (setting_of s) (iterating hs)
    iteration_size hs =
        ap₂ (λ (f : form.Form) m. iteration_length f m (terms_each branch.images.items)
        (terms_each ks)) (sym form_at) vars_at
        ∙ ap (λ fs. iteration_length (analysis.form_of (setting_of s) place) s.arity fs
        (terms_each ks)) (sym map_at)
        ∙ iteration_is (setting_of s) k place i (terms_each w.basis.now) (terms_each ks) hs

    few_iteration : IsShortIteration → (hs : List (Terms Fraction))
        → most_terms < work_length (setting_of s) (iterating hs) → ⊥
    few_iteration few hs l = few (subst (λ x. most_terms < x) (sym (iteration_size hs)) l)

    past_iteration : (iteration_of branch ks).IsPastStart → (hs : List (Terms Fraction))
        → IsPastStarting (setting_of s) (iterating hs)
    past_iteration (inl p) hs =
        inl (subst (λ fs. IsPastIteration (analysis.form_of (setting_of s) place) s.arity fs
        (terms_each ks))
        (sym map_at) (subst₂ (λ (f : form.Form) m. IsPastIteration f m
        (terms_each branch.images.items) (terms_each ks)) (sym form_at) vars_at p))
    past_iteration (inr p) hs =
        inr (subst (λ (W : Way fractions). IsPastStart fractions rationals W.gens)
        (iteration_way hs) p)

    iteration_here : (hs : List (Terms Fraction)) → IsUnderWay (setting_of s) (iterating hs)
        (turning branch ks) (iteration_of branch ks).IsPastStart old mid
    iteration_here hs = record {
      begun = begun_here h ∙ ap (λ j. with_entry old
          (Begin (journal.Iteration k (suc place) j))) (after_one i);
      way = iteration_way hs;
      past = λ p. past_iteration p hs;
    }

    pub iteration_next : IsShortIteration → (hs : List (Terms Fraction))
        → Awaits w old (iteration_begins w i ks hs) → (ls : Vec FracPoly)
        → Ran (iteration_of branch ks) (IsListOf (turning branch ks)) mid new (done ls)
        → Awaits w new (iteration_ends w i ks hs ls.items)
    iteration_next few hs c ls r = task_ended (iteration_here hs) c (few_iteration few hs) ls r

    module _ (ls : Vec FracPoly)
        (r : Ran (iteration_of branch ks) (IsListOf (turning branch ks)) mid new (done ls)) where
      pub iteration_units : Follow old new
      iteration_units = units_follow (iteration_here []) ls r

      pub iteration_known : KnowsIterations w i old ks
          → AreOver (length branch.images.items) ls.items
          → IsReducedList (length branch.images.items) (terms_each ls.items)
          → KnowsIterations w (suc i) new ls.items
      unfolding starting block
      iteration_known kk over reduced =
          let bound = list_bound (iteration_here []) ls r in
          let f = analysis.form_of (setting_of s) place in
          let few = iteration_few f s.arity (terms_each ks) _
          (ap length map_at ∙ length-map branch.images.items terms_in ∙ vars_at) in
          let b = length-map ks terms_in in
          let d = units_begun old mid (iteration_at k i n) h.begun in
          let e = kk.few in
          let more = turned_more s.arity i in
          known _ (units_of new.entries) (inr (
            subst (λ m. AreOver m ls.items) vars_at over,
            subst (λ m. IsReducedList m (terms_each ls.items)) vars_at reduced,
          )) (omega (arith, bound, few, b, d, e, more))

    pub iteration_long : (hs : List (Terms Fraction)) → Awaits w old (iteration_begins w i ks hs)
        → most_terms < iteration_length (form_of branch.form) (length branch.images.items)
        (terms_each branch.images.items) (terms_each ks)
        → Stops w mid (Limit (task.Iteration k n (i + 1)))
    iteration_long hs c l = task_long (iteration_here hs) c
        (subst (λ x. most_terms < x) (iteration_size hs) l) (task.Iteration k n (i + 1))
        (ap₂ (journal.Iteration k) h.named (after_one i))

    pub iteration_refused : IsShortIteration → (hs : List (Terms Fraction))
        → Awaits w old (iteration_begins w i ks hs)
        → {R : Type 0} {G : R → elimination.State Fraction → Type 0} (e : engine.EngineError)
        → Ran (iteration_of branch ks) G mid new (stopped (refusal_of e))
        → Stops w new (in_task (task.Iteration k n (i + 1)) e)
    iteration_refused few hs c e r = task_refused (iteration_here hs) c (few_iteration few hs)
        (task.Iteration k n (i + 1)) (ap₂ (journal.Iteration k) h.named (after_one i)) e r
