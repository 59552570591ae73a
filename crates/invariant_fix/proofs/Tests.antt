-- The closing tests of a round as tasks of the analysis: divisions, and what comes behind them.
--   IsTesting A k b i gs p old mid     the test of the element i with the branch b has begun behind `old`, which came next; p is what is divided
--   test_passed, test_failed       where the division of an element has ended, with nothing left and with something
--   test_long                      where the element with the branch's map is too long
--   test_refused                   what a refusal of it tells
--   nothing_left, something_left   what a rest tells of the state that a division has ended with
--   test_here, tests_go_on, tests_end     the tests one after another
use Rattle.std.proofs.Common.{◌≡◌, ◌≢◌, ℕ, suc, ◌<◌, ◌≤◌, Bool, true, false, cond, ltb, ◌&&◌, List, [], ◌∷◌, length, get_or, Option, Some, None, refl, sym, ap, ap₂, subst, ◌∙◌, arith}
use Rattle.std.proofs.lemmas.Bool.{lt-ltb, le-ltb}
use Rattle.algebra.specs.Fraction.{Fraction, rationals, fractions}
use Rattle.polynomials.specs.Terms.{Terms}
use Rattle.polynomials.specs.Order.{grevlex}
use Rattle.polynomials.specs.Weight.{IsPastComposition}
use Rattle.machines.specs.Cut.{find_cut}
use Rattle.machines.specs.Division as division
use Rattle.machines.specs.Event.{Event}
use Rattle.machines.specs.Journal as journal
use Rattle.machines.specs.Journal.{Begin, Journal}
use Rattle.machines.specs.Machine.{stopped, Ran}
use Rattle.machines.specs.Machines as machines
use Rattle.machines.specs.Run.{IsRun, HasEnded}
use Rattle.machines.specs.Work.{WorkToEnd}
use Rattle.rounds.specs.Analysis.{Setting, fresh, closing, turning, goes, finished, pullback, after_closing, test, closing_from, after_test, closed_by, next}
use Rattle.expansion.specs.Counts.{most_terms}
use Rattle.expansion.specs.Lengths.{composition_length}
use Rattle.divide.specs.Outcomes.{refusal_of}
use Rattle.divide.specs.declared.EngineError as engine
use Rattle.journal.specs.View as view
use Rattle.journal.specs.View.{with_entry}
use Rattle.journal.specs.declared.Task as declared_task
use Rattle.invariant_fix.specs.Coming.{Comes, IsLongAt, Refuses}
use Rattle.invariant_fix.specs.Errors.{in_task}
use Rattle.invariant_fix.specs.Started.{with_past_start}
use Rattle.invariant_fix.specs.Long.{short_moves}
use Rattle.invariant_fix.proofs.TaskLengths.{closing_is, closing_short}
use Rattle.invariant_fix.proofs.Tasks.{IsPart, begun_task, part_ended, part_refused}

-- ---- what is left
pub nothing_left : (gs : List (Terms Fraction)) (s : division.State Fraction)
    → HasEnded (division.next rationals grevlex gs) s → division.remainder s ≡ [] → s.current ≡ None
unfolding division.next division.next_division division.next_cut find_cut
nothing_left gs s h e = go s.current h e
  where
    go : (o : Option (Terms Fraction)) → division.next_division rationals grevlex gs o s.cofactors
        ≡ None → division.remainder_of o ≡ [] → o ≡ None
    go None h e = refl
    go (Some []) h e = absurd (let z : ⊥ = cc in z)
    go (Some (t ∷ p)) h e = absurd (let z : ⊥ = cc in z)

pub something_left : (s : division.State Fraction) → division.remainder s ≢ []
    → (p : Terms Fraction) × (s.current ≡ Some p)
something_left s n = go s.current n
  where
    go : (o : Option (Terms Fraction)) → division.remainder_of o ≢ [] → (p : Terms Fraction)
        × (o ≡ Some p)
    go None n = absurd (n refl)
    go (Some p) n = (p, refl)

module _ (A : Setting) (k b i : ℕ) (gs : List (Terms Fraction)) where
  abbrev step : division.State Fraction → Option (Event × division.State Fraction)
  step s = division.next rationals grevlex gs s

  test_next : (s : division.State Fraction) → next A (closing k b i gs s) ≡ closed_by A k b i gs s
      (step s)
  unfolding next
  test_next s = refl

  abbrev IsFew : Type 0
  IsFew = most_terms < composition_length (get_or gs i []) (get_or A.maps b []) → ⊥

  test_part : IsFew → IsPart A step (closing k b i gs) (λ s. after_test A k b i gs s.current)
  test_part few = record {
    goes_on = λ s u e n. test_next s ∙ ap (closed_by A k b i gs s) n;
    ends = λ s e. test_next s ∙ ap (closed_by A k b i gs s) e;
    short = λ s. closing_short A k b i gs s few;
  }

pub record IsTesting (A : Setting) (k b i : ℕ) (gs : List (Terms Fraction)) (p : Terms Fraction)
    (old mid : Journal) : Type 0 where
  pub dividend : p ≡ pullback A b (get_or gs i [])
  pub comes : Comes A old.entries (test A k b i gs)
  pub begun : mid ≡ with_entry old (Begin (journal.Closed k (suc b) (suc i)))

module _ {A : Setting} {k b i : ℕ} {gs : List (Terms Fraction)} {p : Terms Fraction}
    {old mid : Journal} (u : IsTesting A k b i gs p old mid) where
  here : IsRun (short_moves A) fresh mid.entries (closing k b i gs (division.initial_state gs p))
  here =
      subst (λ q. IsRun (short_moves A) fresh mid.entries
      (closing k b i gs (division.initial_state gs q))) (sym u.dividend)
      (begun_task A old mid (journal.Closed k (suc b) (suc i))
      (closing k b i gs (division.initial_state gs (pullback A b (get_or gs i [])))) u.comes
      u.begun)

  pub test_long : most_terms < composition_length (get_or gs i []) (get_or A.maps b [])
      → (task : declared_task.Task) → view.task_of task ≡ journal.Closed k (suc b) (suc i)
      → IsLongAt A (view.task_of task) mid.entries
  test_long l task named = record {
    state = closing k b i gs (division.initial_state gs p);
    run = here;
    is_task = sym named;
    long = subst (λ n. most_terms < n) (closing_is A k b i gs (division.initial_state gs p)) l;
  }

  module _ (few : IsFew A k b i gs) (new : Journal) where
    test_ended : (t : division.State Fraction) → WorkToEnd (step A k b i gs)
        (division.initial_state gs p) mid.entries new.entries t
        → Comes A new.entries (after_test A k b i gs t.current)
    test_ended t f =
        part_ended (test_part A k b i gs few) (division.initial_state gs p) mid here new t f

    pub test_passed : (t : division.State Fraction) → WorkToEnd (division.next rationals grevlex gs)
        (division.initial_state gs p) mid.entries new.entries t → t.current ≡ None
        → Comes A new.entries (closing_from A k b (suc i) gs)
    test_passed t f e = subst (λ o. Comes A new.entries (after_test A k b i gs o)) e
        (test_ended t f)

    pub test_failed : (t : division.State Fraction)
        → WorkToEnd (division.next rationals grevlex gs) (division.initial_state gs p) mid.entries
        new.entries t → (q : Terms Fraction) → t.current ≡ Some q
        → Comes A new.entries (goes (Begin (journal.Round (suc k))) (turning (suc k) gs))
    test_failed t f q e = subst (λ o. Comes A new.entries (after_test A k b i gs o)) e
        (test_ended t f)

    pub test_refused : (P : Type 0)
        → (P → IsPastComposition fractions (get_or gs i []) (get_or A.maps b []))
        → (task : declared_task.Task) → view.task_of task ≡ journal.Closed k (suc b) (suc i)
        → {R : Type 0} {G : R → division.State Fraction → Type 0} (e : engine.EngineError)
        → Ran (with_past_start (machines.division fractions grevlex gs p) P) G
        mid new (stopped (refusal_of e)) → Refuses A new (in_task task e)
    test_refused P past task named e r =
        part_refused _
        (test_part A k b i gs few) mid here new past (λ s q. q) task (λ s. sym named) e r.to

-- ---- one after another
module _ (A : Setting) (k b : ℕ) (gs : List (Terms Fraction)) where
  pub test_here : (i : ℕ) → i < length gs → closing_from A k b i gs ≡ test A k b i gs
  unfolding closing_from
  test_here i l =
      ap (λ o. cond o (test A k b i gs) (cond (ltb 0 (length gs) && ltb (suc b) (length A.forms))
      (test A k (suc b) 0 gs) (after_closing A A.asked k gs))) (lt-ltb i (length gs) l)

  behind : {more : Bool} → ltb (suc b) (length A.forms) ≡ more → closing_from A k b (length gs) gs
      ≡ cond (ltb 0 (length gs) && more) (test A k (suc b) 0 gs) (after_closing A A.asked k gs)
  unfolding closing_from
  behind e = ap₂ (λ o more. cond o (test A k b (length gs) gs)
      (cond (ltb 0 (length gs) && more) (test A k (suc b) 0 gs) (after_closing A A.asked k gs)))
      (le-ltb (length gs) (length gs) (omega arith)) e

  pub tests_go_on : suc b < length A.forms → closing_from A k b (length gs) gs ≡ closing_from A k
      (suc b) 0 gs
  unfolding closing_from
  tests_go_on l = behind (lt-ltb (suc b) (length A.forms) l)
      ∙ go (ltb 0 (length gs)) (ltb (suc (suc b)) (length A.forms))
    where
      go : (some still : Bool)
          → cond (some && true) (test A k (suc b) 0 gs) (after_closing A A.asked k gs)
          ≡ cond some (test A k (suc b) 0 gs)
          (cond (some && still) (test A k (suc (suc b)) 0 gs) (after_closing A A.asked k gs))
      go true still = refl
      go false still = refl

  pub tests_end : length A.forms ≤ suc b → A.asked ≡ None → closing_from A k b (length gs) gs
      ≡ finished k gs
  tests_end l n = behind (le-ltb (suc b) (length A.forms) l) ∙ go (ltb 0 (length gs))
      ∙ ap (λ o. after_closing A o k gs) n
    where
      go : (some : Bool) → cond (some && false) (test A k (suc b) 0 gs)
          (after_closing A A.asked k gs) ≡ after_closing A A.asked k gs
      go true = refl
      go false = refl
