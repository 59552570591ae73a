-- A task of an analysis that completes and tidies: what the layer below tells of it, as a part of the machine of the analysis.
--   begun_task                     the entries with the beginning of a task follow the analysis
--   IsPart A step into behind      in the states `into s` the analysis does what the steps do, and then what comes behind
--   part_at, part_ended, part_refused     where these steps are, where they have ended, and what a refusal of them tells
--   way_of A w                     what is done for the work w
--   past_start                     where its start is past
--   IsUnderWay A w W P old mid     the work w has begun behind `old`; the layer below does W for it, whose start is past where P
--   task_ended                     where the work has ended
--   task_long                      where it is too long
--   task_refused                   what a refusal of it tells
use Rattle.std.proofs.Common.{◌≡◌, ◌<◌, inl, inr, List, [], ◌∷◌, map, Option, Some, None, refl, sym, ap, subst, ◌∙◌}
use Rattle.std.specs.Global.{Vec}
use Rattle.algebra.specs.Fraction.{Fraction, rationals, fractions}
use Rattle.polynomials.specs.Order.{grevlex}
use Rattle.machines.specs.Elimination as elimination
use Rattle.machines.specs.Elimination.{free_part}
use Rattle.machines.specs.Event.{Event}
use Rattle.machines.specs.Journal as journal
use Rattle.machines.specs.Journal.{Begin, Did, Journal}
use Rattle.machines.specs.Machine.{Machine, done, stopped, Stops, Ran}
use Rattle.machines.specs.Past as machine
use Rattle.machines.specs.Run.{IsRun, HasEnded}
use Rattle.machines.specs.Work.{Work as Done, WorkToEnd}
use Rattle.machines.proofs.Runs.{run_joined, run_then}
use Rattle.poly.specs.Seen.{terms_each}
use Rattle.loop_model.specs.FracPoly.{FracPoly}
use Rattle.ideal_ops.specs.Calls.{Way, elimination_of, IsListOf}
use Rattle.rounds.specs.Analysis.{Setting, Step, Work, starts, iteration, iteration_meet, orbit, meet, State, fresh, working, goes, block, order, starting, start_of, after, next_work, next, move_of}
use Rattle.rounds.specs.Past.{IsPastStarting, IsPastTask, IsPastEvent, task_of, task_of_work}
use Rattle.divide.specs.Outcomes.{refusal_of}
use Rattle.divide.specs.declared.EngineError as engine
use Rattle.divide.specs.declared.EngineError.TheVariants as engine_error
use Rattle.journal.specs.View as view
use Rattle.journal.specs.View.{with_entry}
use Rattle.journal.specs.declared.Task as declared_task
use Rattle.invariant_fix.specs.Coming.{Comes, IsStopped, IsLongAt, Refuses}
use Rattle.invariant_fix.specs.Errors.{in_task}
use Rattle.expansion.specs.Counts.{most_terms}
use Rattle.invariant_fix.specs.Long.{work_length, short_moves, IsLong}
use Rattle.invariant_fix.specs.Started.{with_past_start}
use Rattle.invariant_fix.proofs.ShortRuns.{short_step}
use Rattle.invariant_fix.proofs.TaskLengths.{work_is, work_short}

-- ---- the beginning of a task
module _ (A : Setting) where
  pub begun_task : (old mid : Journal) (t : journal.Task) (s : State)
      → Comes A old.entries (goes (Begin t) s) → mid ≡ with_entry old (Begin t)
      → IsRun (short_moves A) fresh mid.entries s
  begun_task old mid t s c e =
      subst (λ (j : Journal). IsRun (short_moves A) fresh j.entries s) (sym e)
      (run_then (short_moves A) fresh c.state s old.entries (Begin t) c.run
      (short_step A c.state c.short ∙ ap (move_of A) c.is))

-- ---- steps that the analysis does
pub record IsPart (A : Setting) {S : Type 0} (step : S → Option (Event × S)) (into : S → State)
    (behind : S → Step) : Type 0 where
  pub goes_on : (s u : S) (e : Event) → step s ≡ Some (e, u)
      → next A (into s) ≡ goes (Did e) (into u)
  pub ends : (s : S) → HasEnded step s → next A (into s) ≡ behind s
  pub short : (s : S) → IsLong A (into s) → ⊥

module _ {A : Setting} {S : Type 0} {step : S → Option (Event × S)} {into : S → State}
    {behind : S → Step} (part : IsPart A step into behind) where
  part_run : (s t : S) (es : List Event) → IsRun step s es t
      → IsRun (short_moves A) (into s) (map Did es) (into t)
  unfolding IsRun
  part_run s t [] h = ap into h
  part_run s t (e ∷ es) (u, n, r) = (
    into u,
    short_step A (into s) (part.short s) ∙ ap (move_of A) (part.goes_on s u e n),
    part_run u t es r,
  )

  module _ (start : S) (mid : Journal) (here : IsRun (short_moves A) fresh mid.entries (into start))
      (new : Journal) where
    pub part_at : (t : S) → Done step start mid.entries new.entries t
        → IsRun (short_moves A) fresh new.entries (into t)
    part_at t d =
        subst (λ es. IsRun (short_moves A) fresh es (into t)) (sym d.entries)
        (run_joined (short_moves A) fresh (into start) (into t) mid.entries (map Did d.events) here
        (part_run start t d.events d.run))

    pub part_ended : (t : S) → WorkToEnd step start mid.entries new.entries t
        → Comes A new.entries (behind t)
    part_ended t f = record {
      state = into t;
      run = part_at t f.work;
      is = part.ends t f.ended;
      short = part.short t;
    }

module _ {A : Setting} {S : Type 0} (M : Machine S) {into : S → State} {behind : S → Step}
    (part : IsPart A M.next into behind) (mid : Journal)
    (here : IsRun (short_moves A) fresh mid.entries (into M.start)) (new : Journal)
    (past : M.IsPastStart → IsPastTask A (into M.start))
    (events : (s : S) → M.IsPastNext s → IsPastEvent A (into s)) (t : declared_task.Task)
    (named : (s : S) → task_of (into s) ≡ view.task_of t) where
  pub part_refused : (e : engine.EngineError) → Stops M mid new (refusal_of e)
      → Refuses A new (in_task t e)
  part_refused engine_error.Wide (inl h) = record {
    state = into h.at;
    run = part_at part M.start mid here new h.at h.work;
    is_task = named h.at;
    past = inr (events h.at h.past);
  }
  part_refused engine_error.Wide (inr (n, p)) =
      subst (λ (j : Journal). IsStopped A (view.task_of t) j.entries) (sym n) (record {
        state = into M.start;
        run = here;
        is_task = named M.start;
        past = inl (past p);
      })
  part_refused engine_error.Budget h = record {
    entry = Did h.event;
    following = into h.following;
    comes = record {
      state = into h.at;
      run = part_at part M.start mid here new h.at h.work;
      is = part.goes_on h.at h.following h.event h.comes;
      short = part.short h.at;
    };
    unit = h.unit;
    exhausted = h.exhausted;
  }
  part_refused engine_error.Memory h =
      record { state = into h.at; run = part_at part M.start mid here new h.at h.work }

-- ---- a work
module _ (A : Setting) (w : Work) where
  abbrev pub way_of : Way fractions
  way_of = record { order = order A w; part = free_part (block A w); gens = starting A w }

  abbrev step : elimination.State Fraction → Option (Event × elimination.State Fraction)
  step s = elimination.next rationals (order A w) grevlex (free_part (block A w)) s

  abbrev first : elimination.State Fraction
  first = elimination.initial_state rationals (order A w) (starting A w)

  -- what comes next
  work_next : (s : elimination.State Fraction) → next A (working w s) ≡ next_work A w s (step s)
  unfolding next
  work_next s = refl

  work_part : (most_terms < work_length A w → ⊥)
      → IsPart A step (working w) (λ s. next_work A w s None)
  work_part few = record {
    goes_on = λ s u e n. work_next s ∙ ap (next_work A w s) n;
    ends = λ s e. work_next s ∙ ap (next_work A w s) e;
    short = λ s. work_short A w s few;
  }

  pub past_start : machine.IsPastStart fractions rationals (starting A w) → IsPastStarting A w
  past_start p = go w p
    where
      go : (v : Work) → machine.IsPastStart fractions rationals (starting A v) → IsPastStarting A v
      go starts p = p
      go (iteration k b n gs before so_far) p = inr p
      go (iteration_meet k b n gs so_far ks) p = inr (inr p)
      go (orbit k b gs so_far) p = inr p
      go (meet k b gs so_far hs) p = inr (inr p)

pub record IsUnderWay (A : Setting) (w : Work) (W : Way fractions) (P : Type 0)
    (old mid : Journal) : Type 0 where
  pub begun : mid ≡ with_entry old (Begin (task_of_work w))
  pub way : W ≡ way_of A w
  pub past : P → IsPastStarting A w

module _ {A : Setting} {w : Work} {W : Way fractions} {P : Type 0} {old mid : Journal}
    (u : IsUnderWay A w W P old mid)
    (c : Comes A old.entries (goes (Begin (task_of_work w)) (start_of A w))) where
  here : IsRun (short_moves A) fresh mid.entries (start_of A w)
  here = begun_task A old mid (task_of_work w) (start_of A w) c u.begun

  pub task_long : most_terms < work_length A w → (t : declared_task.Task)
      → view.task_of t ≡ task_of_work w → IsLongAt A (view.task_of t) mid.entries
  task_long l t named = record {
    state = start_of A w;
    run = here;
    is_task = sym named;
    long = subst (λ n. most_terms < n) (work_is A w (first A w)) l;
  }

  module _ (few : most_terms < work_length A w → ⊥) {new : Journal} where
    pub task_ended : (ls : Vec FracPoly)
        → Ran (with_past_start (elimination_of W) P) (IsListOf W) mid new (done ls)
        → Comes A new.entries (after A w (terms_each ls.items))
    task_ended ls r =
        let h = (subst (λ V. Ran (with_past_start (elimination_of V) P) (IsListOf V) mid new
        (done ls)) u.way r).to in
        subst (λ ts. Comes A new.entries (after A w ts)) (sym h.gives)
        (part_ended (work_part A w few) (first A w) mid here new h.last h.finished)

    pub task_refused : (t : declared_task.Task) → view.task_of t ≡ task_of_work w → {R : Type 0}
        {G : R → elimination.State Fraction → Type 0} (e : engine.EngineError)
        → Ran (with_past_start (elimination_of W) P) G mid new (stopped (refusal_of e))
        → Refuses A new (in_task t e)
    task_refused t named {G = G} e r =
        part_refused _ (work_part A w few) mid here new u.past (λ s p. p) t (λ s. sym named) e
        (subst (λ V. Ran (with_past_start (elimination_of V) P) G mid new (stopped (refusal_of e)))
        u.way r).to
