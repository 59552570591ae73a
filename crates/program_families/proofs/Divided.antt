-- The divisions of a task, as the code makes them.
--   division_along       a division by the same list
--   division_ends, division_stops     its end, and its refusals
--   image_along, rest_along           the states of the task in them
--   image_over, rest_over             what comes behind them
use Rattle.std.proofs.Common.{◌≡◌, inl, inr, ℕ, List, [], ◌∷◌, ◌++◌, sym, ap, subst, ◌∙◌, Err}
use Rattle.algebra.specs.Fraction.{Fraction, rationals, fractions}
use Rattle.polynomials.specs.Order.{grevlex}
use Rattle.polynomials.specs.Terms.{Terms}
use Rattle.machines.specs.Division as division
use Rattle.machines.specs.Journal as journal
use Rattle.machines.specs.Journal.{Journal}
use Rattle.machines.specs.Machine.{Machine, Outcome, Ran, done, stopped}
use Rattle.machines.specs.Machines as machines
use Rattle.machines.specs.Run.{HasEnded}
use Rattle.journal.specs.View.{with_entry}
use Rattle.divide.specs.Division.{division_of}
use Rattle.divide.specs.Outcomes.{refusal_of}
use Rattle.divide.specs.declared.EngineError.{EngineError}
use Rattle.divide.specs.declared.EngineError.TheVariants as engine
use Rattle.loop_model.specs.FracPoly.{FracPoly}
use Rattle.flows.specs.Entries.{Task, Begin}
use Rattle.flows.specs.Tasks.{Rests, State, imaging, resting, goes, Job, next, imaged, taken, by_rest, from_rests}
use Rattle.program_families.specs.Following.{noted, Follows, ComesNext}
use Rattle.program_families.specs.Ends.{IsDividing, HasRest, Divides}
use Rattle.program_families.proofs.Following.{follows_then, work_follows, work_out}

pub division_along : {A : Type 0} (p : FracPoly) {ls ms : List FracPoly} → ls ≡ ms
    → (G : A → division.State Fraction → Type 0) (before after : Journal) (o : Outcome A)
    → Ran (division_of p ls) G before after o → Ran (division_of p ms) G before after o
division_along p e G before after o r = subst (λ l. Ran (division_of p l) G before after o) e r

module _ (n : ℕ) (j : Job) (basis : List (Terms Fraction)) (at : division.State Fraction → State)
    (is : IsDividing n j basis at) (start : List journal.Entry) (task : Task) (place : ℕ)
    (told : noted (Begin task) ≡ journal.Begin (journal.Image place)) (p : Terms Fraction)
    (before begun after : Journal)
    (b : begun ≡ with_entry before (journal.Begin (journal.Image place)))
    (c : ComesNext n j start before.entries
    (goes (Begin task) (at (division.initial_state basis p)))) where
  abbrev M : Machine (division.State Fraction)
  M = machines.division fractions grevlex basis p

  division_begun : Follows n j start begun.entries (at (division.initial_state basis p))
  division_begun =
      subst (λ es. Follows n j start es (at (division.initial_state basis p)))
      (ap (λ e. before.entries ++ e ∷ []) told ∙ sym (ap (λ (k : Journal). k.entries) b))
      (follows_then n j start before.entries c.state _ (Begin task) c.follows c.is)

  pub division_ends : {A : Type 0} (G : A → division.State Fraction → Type 0) (a : A)
      (rest : Terms Fraction)
      → ((s : division.State Fraction) → G a s → rest ≡ division.remainder s)
      → Ran M G begun after (done a) → HasRest n j basis at start after.entries rest
  division_ends G a rest gives r = record {
    last = r.to.last;
    follows =
        work_follows n j start M.next at is.goes begun.entries after.entries
        (division.initial_state basis p) r.to.last r.to.finished.work division_begun;
    ended = r.to.finished.ended;
    is = gives r.to.last r.to.gives;
  }

  pub division_stops : {A : Type 0} (G : A → division.State Fraction → Type 0) (e : EngineError)
      → Ran M G begun after (stopped (refusal_of e))
      → Divides n j basis at start after.limit after.entries (Err e)
  division_stops G engine.Wide r = elim r.to [
    | inl x ↦ record {
      last = x.at;
      follows =
          work_follows n j start M.next at is.goes begun.entries after.entries
          (division.initial_state basis p) x.at x.work division_begun;
      past = x.past;
    }
    | inr x ↦ absurd x.1
  ]
  division_stops G engine.Budget r =
      work_out n j start M.next at is.goes begun.entries after.entries after.limit
      (division.initial_state basis p) r.to division_begun
  division_stops G engine.Memory r = tt

module _ (n : ℕ) (j : Job) (basis : List (Terms Fraction)) where
  module _ (e : ℕ) (waiting : List (Terms Fraction)) where
    pub image_along : IsDividing n j basis (imaging basis e waiting)
    unfolding next imaged
    image_along = record { goes = λ d u x h. ap (imaged n j basis e waiting d) h }

    pub image_over : (d : division.State Fraction)
        → HasEnded (division.next rationals grevlex basis) d
        → next n j (imaging basis e waiting d)
        ≡ by_rest n j basis e waiting (division.remainder d)
    unfolding next imaged
    image_over d h = ap (imaged n j basis e waiting d) h

  module _ (rs : Rests) (m : List ℕ) (waiting : List (List ℕ)) where
    pub rest_along : IsDividing n j basis (resting basis rs m waiting)
    unfolding next taken
    rest_along = record { goes = λ d u x h. ap (taken n j basis rs m waiting d) h }

    pub rest_over : (d : division.State Fraction)
        → HasEnded (division.next rationals grevlex basis) d
        → next n j (resting basis rs m waiting d)
        ≡ from_rests n j basis ((m, division.remainder d) ∷ rs) waiting
    unfolding next taken
    rest_over d h = ap (taken n j basis rs m waiting d) h
