-- The closing division of an element with a branch, and what comes behind it.
--   composed_is          a composition of the code, collected
--   IsTest w i branch element old mid n j     the test of this element has begun with the branch w, which comes next, by their numbers n and j, counted from 1
--   element_over         the element's variables
--   step_long            where the dividend is too long
--   step_open, step_next, step_done, step_refused      what an answer of the division tells
--   ran_test             what divide has done, in the words of the test
use Rattle.std.proofs.Common.{◌≡◌, ◌≢◌, ℕ, suc, ◌<◌, List, [], ◌∷◌, length, get_or, None, sym, ap, ap₂, subst, ◌∙◌, arith, Vec, Global}
use Rattle.std.proofs.lemmas.List.{get_or-map}
use Rattle.std.proofs.lemmas.List.Elements.{All-head}
use Rattle.algebra.specs.Fraction.{Fraction, ℚ, rationals, fractions}
use Rattle.algebra.proofs.Fractions.{ℚ_field}
use Rattle.polynomials.specs.Order.{grevlex}
use Rattle.polynomials.specs.Terms.{Terms, Same, compose}
use Rattle.polynomials.specs.Weight.{IsPastComposition}
use Rattle.polynomials.proofs.Arity.{arity-compose}
use Rattle.polynomials.proofs.Orders.{grevlex_order}
use Rattle.machines.specs.Collect.{collect}
use Rattle.machines.specs.Division as division
use Rattle.machines.specs.Journal as journal
use Rattle.machines.specs.Journal.{Begin, Journal}
use Rattle.machines.specs.Machine.{Outcome, done, stopped, RanToEnd, Ran}
use Rattle.machines.specs.Machines as machines
use Rattle.machines.specs.Run.{IsRun}
use Rattle.machines.proofs.Collecting.{collect-is}
use Rattle.machines.proofs.Units.{units_added}
use Rattle.poly.specs.Seen.{arity_of, terms_in, terms_each, Is}
use Rattle.poly.proofs.Standing.{arities_over}
use Rattle.expansion.specs.Counts.{most_terms}
use Rattle.expansion.specs.Lengths.{composition_length}
use Rattle.divide.specs.Division.{division_of, HasCofactors}
use Rattle.divide.specs.Outcomes.{refusal_of}
use Rattle.divide.specs.declared.EngineError as engine
use Rattle.journal.specs.View.{with_entry}
use Rattle.journal.specs.declared.Task.TheVariants as task
use Rattle.rounds.specs.Analysis as analysis
use Rattle.ideal_ops.specs.Calls.{AreOver}
use Rattle.loop_model.specs.FracPoly.{FracPoly}
use Rattle.invariant_fix.specs.Blocked.{Divided}
use Rattle.invariant_fix.specs.Closing.{pullback_by, test_of, HasStep}
use Rattle.invariant_fix.specs.Errors.{in_task}
use Rattle.invariant_fix.specs.Setting.{setting_of}
use Rattle.invariant_fix.specs.InWork.{IsInWork, Awaits, Stops, testing, tested, opened}
use Rattle.invariant_fix.specs.Steps.{Follow}
use Rattle.invariant_fix.specs.declared.branch_in_work.BranchInWork.{BranchInWork}
use Rattle.invariant_fix.specs.declared.branches.Branch.{Branch}
use Rattle.invariant_fix.specs.declared.errors.AnalyseError.TheVariants.{Limit}
use Rattle.invariant_fix.proofs.Blocks.{graded_polynomial}
use Rattle.invariant_fix.proofs.Lists.{units_begun}
use Rattle.invariant_fix.proofs.Started.{ran_started}
use Rattle.invariant_fix.proofs.Tests.{IsTesting, nothing_left, something_left, test_passed, test_failed, test_long, test_refused}

-- ---- a composition
first_arity : (m : ℕ) (images : List FracPoly) → 0 < m → length images ≡ m → AreOver m images
    → arity_of images ≡ m
first_arity m [] l c a = absurd (omega (arith, l, c))
first_arity m (q ∷ qs) l c a = All-head (λ (p : FracPoly). p.arity ≡ m) q qs a

module _ (b : Branch) (g : FracPoly) (some : 0 < g.arity) (over : AreOver g.arity b.images.items)
    (count : length b.images.items ≡ g.arity) (t : FracPoly)
    (is : Is g.order (arity_of b.images.items) (compose ℚ (arity_of b.images.items) (terms_in g)
    (terms_each b.images.items)) t) where
  abbrev m : ℕ
  m = g.arity

  first : arity_of b.images.items ≡ m
  first = first_arity m b.images.items some count over

  pub composed_arity : t.arity ≡ g.arity
  composed_arity = is.arity ∙ first

  pub composed_is : terms_in t ≡ collect rationals grevlex (compose ℚ g.arity (terms_in g)
      (terms_each b.images.items))
  composed_is =
      collect-is ℚ_field grevlex grevlex_order m _ (terms_in t) (arity-compose m ℚ (terms_in g)
      (terms_each b.images.items) (arities_over m b.images.items over))
      (graded_polynomial m t composed_arity) (subst (λ n. Same ℚ (terms_in t)
      (compose ℚ n (terms_in g) (terms_each b.images.items))) first is.same)

  pub ran_test : (gs : List FracPoly) (mid new : Journal) (o : Outcome Divided)
      → Ran (division_of t gs) (HasCofactors t.order t.arity) mid new o
      → Ran (test_of b g gs) (HasCofactors g.order g.arity) mid new o
  ran_test gs mid new o r =
      ran_started (machines.division fractions grevlex (terms_each gs) (pullback_by b g))
      (λ z. absurd z) o
      (subst (λ n. Ran (machines.division fractions grevlex (terms_each gs) (pullback_by b g))
      (HasCofactors g.order n) mid new o) composed_arity
      (subst (λ p. Ran (machines.division fractions grevlex (terms_each gs) p)
      (HasCofactors g.order t.arity) mid new o) composed_is r))

-- ---- the test of an element with a branch
pub record IsTest (w : BranchInWork) (i : ℕ) (branch : Branch) (element : FracPoly)
    (old mid : Journal) (n j : ℕ) : Type 0 where
  pub at : IsInWork w old
  pub inside : i < length w.basis.now
  pub branch_is : branch ≡ get_or w.setting.now.branches.items w.place branch
  pub element_is : element ≡ get_or w.basis.now i element
  pub named : n ≡ suc w.place
  pub numbered : j ≡ suc i
  pub begun : mid ≡ with_entry old (Begin (journal.Closed w.round n j))
  pub due : Awaits w old (testing w i)

module _ {w : BranchInWork} {i : ℕ} {branch : Branch} {element : FracPoly} {old mid : Journal}
    {n j : ℕ} (h : IsTest w i branch element old mid n j) where
  abbrev A : analysis.Setting
  A = setting_of w.setting.now

  abbrev gs : List (Terms Fraction)
  gs = terms_each w.basis.now

  map_at : get_or A.maps w.place [] ≡ terms_each branch.images.items
  map_at = get_or-map (λ (c : Branch). terms_each c.images.items) w.setting.now.branches.items
      w.place branch [] h.at.place ∙ ap (λ (c : Branch). terms_each c.images.items)
      (sym h.branch_is)

  terms_at : get_or gs i [] ≡ terms_in element
  terms_at = get_or-map terms_in w.basis.now i element [] h.inside ∙ ap terms_in (sym h.element_is)

  pub element_over : element.arity ≡ w.setting.now.arity
  element_over = ap (λ p. p.arity) h.element_is ∙ h.at.basis.arity i element h.inside

  element_at : pullback_by branch element ≡ analysis.pullback A w.place (get_or gs i [])
  element_at =
      ap (λ n. collect rationals grevlex (compose ℚ n (terms_in element)
      (terms_each branch.images.items))) element_over
      ∙ ap₂ (λ p ms. collect rationals grevlex (compose ℚ w.setting.now.arity p ms)) (sym terms_at)
      (sym map_at)

  begun_test : mid ≡ with_entry old (Begin (journal.Closed w.round (suc w.place) (suc i)))
  begun_test =
      h.begun ∙ ap₂ (λ a b. with_entry old (Begin (journal.Closed w.round a b))) h.named h.numbered

  task_is : journal.Closed w.round n j ≡ journal.Closed w.round (suc w.place) (suc i)
  task_is = ap₂ (journal.Closed w.round) h.named h.numbered

  testing_here : IsTesting A w.round w.place i gs (pullback_by branch element) old mid
  testing_here = record { dividend = element_at; comes = h.due; begun = begun_test }

  pub step_long : most_terms
      < composition_length (terms_in element) (terms_each branch.images.items)
      → Stops w mid (Limit (task.Closed w.round n j))
  step_long l = test_long testing_here
      (subst (λ n. most_terms < n) (ap₂ composition_length (sym terms_at) (sym map_at)) l)
      (task.Closed w.round n j) task_is

  module _ (few : most_terms
      < composition_length (terms_in element) (terms_each branch.images.items) → ⊥)
      (new : Journal) where
    few_test : most_terms < composition_length (get_or gs i []) (get_or A.maps w.place []) → ⊥
    few_test l = few (subst (λ n. most_terms < n) (ap₂ composition_length terms_at map_at) l)

    pub step_refused : {R : Type 0} {G : R → division.State Fraction → Type 0}
        (e : engine.EngineError) → Ran (test_of branch element w.basis.now) G mid new
        (stopped (refusal_of e)) → Stops w new (in_task (task.Closed w.round n j) e)
    step_refused e r =
        test_refused testing_here few_test new _ past (task.Closed w.round n j) task_is e r
      where
        past : IsPastComposition fractions (terms_in element) (terms_each branch.images.items)
            → IsPastComposition fractions (get_or gs i []) (get_or A.maps w.place [])
        past p = subst (λ x. IsPastComposition fractions x (get_or A.maps w.place []))
            (sym terms_at) (subst (IsPastComposition fractions (terms_in element)) (sym map_at) p)

    module _ (d : Divided) (r : Ran (test_of branch element w.basis.now)
        (HasCofactors element.order element.arity) mid new (done d)) where
      abbrev t : RanToEnd (test_of branch element w.basis.now)
          (HasCofactors element.order element.arity) mid new d
      t = r.to

      pub step_units : Follow old new
      step_units =
          let a = units_added mid.entries new.entries t.finished.work.events
          t.finished.work.entries in
          let b = units_begun old mid (journal.Closed w.round n j) h.begun in
          omega (arith, a, b)

      pub step_open : terms_in d.remainder ≢ [] → Awaits w new (opened w)
      step_open e =
          let (q, f) = something_left t.last (λ z. e (t.gives.remainder ∙ z)) in
          test_failed testing_here few_test new t.last t.finished q f

      gone : terms_in d.remainder ≡ [] → t.last.current ≡ None
      gone e = nothing_left gs t.last t.finished.ended (sym t.gives.remainder ∙ e)

      pub step_next : terms_in d.remainder ≡ [] → Awaits w new (tested w (suc i))
      step_next e = test_passed testing_here few_test new t.last t.finished (gone e)

      pub step_done : terms_in d.remainder ≡ [] → (qs : Vec FracPoly Global) → qs ≡ d.cofactors
          → HasStep w.setting.now w.place i w.basis.now qs.items
      step_done e qs is = record {
        last = t.last;
        leads = record {
          events = t.finished.work.events;
          run =
              subst (λ p. IsRun (division.next rationals grevlex gs)
              (division.initial_state gs p) t.finished.work.events t.last) element_at
              t.finished.work.run;
        };
        ended = t.finished.ended;
        gone = gone e;
        cofactors = ap (λ (v : Vec FracPoly Global). terms_each v.items) is ∙ t.gives.cofactors;
      }
