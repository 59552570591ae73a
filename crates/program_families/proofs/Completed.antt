-- The completion of a task, as the code makes it.
--   completion_ends, completion_stops     its end, and its refusals
--   basis_few                             how long the basis is
use Rattle.std.proofs.Common.{◌≡◌, inl, inr, ℕ, ◌+◌, ◌≤◌, List, [], length, sym, ap, subst, ◌∙◌, arith, Some}
use Rattle.std.proofs.lemmas.List.{append-nil}
use Rattle.algebra.specs.Fraction.{Fraction, rationals, fractions}
use Rattle.polynomials.specs.Order.{grevlex}
use Rattle.polynomials.specs.Terms.{Terms}
use Rattle.machines.specs.Elimination as elimination
use Rattle.machines.specs.Elimination.{free_part}
use Rattle.machines.specs.Event.{Event}
use Rattle.machines.specs.Journal as journal
use Rattle.machines.specs.Journal.{Journal}
use Rattle.machines.specs.Machine.{Machine, Ran, done, stopped}
use Rattle.machines.specs.Machines as machines
use Rattle.machines.specs.Past as past
use Rattle.machines.specs.Run.{HasEnded}
use Rattle.machines.specs.Work.{Work}
use Rattle.machines.proofs.Lengths.{made, NothingKept, list_few, kept_made}
use Rattle.rounds.proofs.Lawful.{kept-nothing}
use Rattle.closures.specs.Closing.{next_extended, extended_list}
use Rattle.journal.specs.View.{with_entry}
use Rattle.divide.specs.Outcomes.{refusal_of}
use Rattle.divide.specs.declared.EngineError.{EngineError}
use Rattle.divide.specs.declared.EngineError.TheVariants as engine
use Rattle.flows.specs.Entries.{Begin, Did, Ideal}
use Rattle.flows.specs.Tasks.{completing, goes, Job, next, completed, begin_ideal, by_target}
use Rattle.program_families.specs.Following.{Follows, ComesNext}
use Rattle.program_families.specs.Causes.{job_generators, IfStops}
use Rattle.program_families.specs.Refusals.{in_ideal}
use Rattle.program_families.proofs.Following.{follows_then, work_follows, work_out}

abbrev elimination_of : List (Terms Fraction) → Machine (elimination.State Fraction)
elimination_of gs = machines.elimination fractions grevlex grevlex (λ hs. hs) gs

module _ (n : ℕ) (j : Job) where
  completing_along : (s u : elimination.State Fraction) (e : Event) → next_extended s ≡ Some (e, u)
      → next n j (completing s) ≡ goes (Did e) (completing u)
  unfolding next completed
  completing_along s u e h = ap (completed n j s) h

  completing_over : (s : elimination.State Fraction) → HasEnded next_extended s
      → next n j (completing s) ≡ by_target n j (extended_list s) j.target
  unfolding next completed
  completing_over s h = ap (completed n j s) h

  module _ (gs : List (Terms Fraction)) (are : gs ≡ job_generators n j)
      (start : List journal.Entry) (before begun after : Journal)
      (b : begun ≡ with_entry before (journal.Begin (journal.Extend j.place)))
      (c : ComesNext n j start before.entries (begin_ideal n j)) where
    abbrev first : elimination.State Fraction
    first = elimination.initial_state rationals grevlex gs

    completion_begun : Follows n j start begun.entries (completing first)
    completion_begun =
        subst (λ hs. Follows n j start begun.entries
        (completing (elimination.initial_state rationals grevlex hs))) (sym are)
        (subst (λ es. Follows n j start es
        (completing (elimination.initial_state rationals grevlex (job_generators n j))))
        (sym (ap (λ (k : Journal). k.entries) b))
        (follows_then n j start before.entries c.state _ (Begin (Ideal j.place)) c.follows c.is))

    pub completion_ends : {A : Type 0} (G : A → elimination.State Fraction → Type 0) (a : A)
        (basis : List (Terms Fraction))
        → ((s : elimination.State Fraction) → G a s → basis ≡ extended_list s)
        → Ran (elimination_of gs) G begun after (done a)
        → ComesNext n j start after.entries (by_target n j basis j.target)
    completion_ends G a basis gives r = record {
      state = completing r.to.last;
      follows =
          work_follows n j start next_extended completing completing_along begun.entries
          after.entries first r.to.last r.to.finished.work completion_begun;
      is =
          completing_over r.to.last r.to.finished.ended
          ∙ ap (λ hs. by_target n j hs j.target) (sym (gives r.to.last r.to.gives));
    }

    pub completion_stops : {A : Type 0} (G : A → elimination.State Fraction → Type 0)
        (e : EngineError) → Ran (elimination_of gs) G begun after (stopped (refusal_of e))
        → IfStops n j start after.entries after.limit (in_ideal e)
    completion_stops G engine.Wide r = elim r.to [
      | inl x ↦ record {
        state = x.at;
        follows =
            work_follows n j start next_extended completing completing_along begun.entries
            after.entries first x.at x.work completion_begun;
        past = inl x.past;
      }
      | inr x ↦ record {
        state = first;
        follows =
            subst (λ (k : Journal). Follows n j start k.entries (completing first)) (sym x.0)
            completion_begun;
        past =
            inr (
              ap (elimination.initial_state rationals grevlex) are,
              subst (λ hs. past.IsPastStart fractions rationals hs) are x.1,
            );
      }
    ]
    completion_stops G engine.Budget r =
        work_out n j start next_extended completing completing_along begun.entries after.entries
        after.limit first r.to completion_begun
    completion_stops G engine.Memory r = tt

-- ---- how long the basis is
module _ (gs : List (Terms Fraction)) (before after : List journal.Entry)
    (t : elimination.State Fraction) where
  abbrev Bound : (List (Terms Fraction) → List (Terms Fraction)) → Type 0
  Bound part =
      Work (elimination.next rationals grevlex grevlex part)
      (elimination.initial_state rationals grevlex gs) before after t
      → length (elimination.list_of grevlex part t) + journal.units_of before
      ≤ length (part (made rationals 0 gs)) + journal.units_of after

  bound : Bound (λ hs. hs)
  bound =
      subst Bound (λ i hs. kept-nothing hs i)
      (λ w. list_few rationals 0 grevlex grevlex gs before after t w)

  made_short : length (made rationals 0 gs) ≤ length gs
  unfolding NothingKept
  made_short =
      let a = ap length (kept-nothing (made rationals 0 gs)) in
      let b = ap (λ l. length (free_part 0 (made rationals 0 l))) (append-nil gs) in
      let d = kept_made rationals 0 gs [] tt in
      omega (arith, a, b, d)

pub basis_few : (gs : List (Terms Fraction)) (before after : Journal) {A : Type 0}
    (G : A → elimination.State Fraction → Type 0) (a : A) (basis : List (Terms Fraction))
    → ((s : elimination.State Fraction) → G a s → basis ≡ extended_list s)
    → Ran (elimination_of gs) G before after (done a)
    → length basis ≤ length gs + journal.units_of after.entries
basis_few gs before after G a basis gives r =
    let u = bound gs before.entries after.entries r.to.last r.to.finished.work in
    let v = made_short gs before.entries after.entries r.to.last in
    let w = ap length (gives r.to.last r.to.gives) in
    omega (arith, u, v, w)
