-- The entries of a task, as the calls of the engine make them.
--   follows_begun, follows_then     no entry; one more
--   work_follows      the events of a machine, whose states are those of the task, go on from those before
--   work_out          a call that is out of units leaves a task that is
--   next_comes        what comes next, by an equal one
use Rattle.std.proofs.Common.{◌≡◌, ℕ, List, [], ◌∷◌, ◌++◌, map, refl, sym, ap, ◌∙◌, Option, Some}
use Rattle.std.proofs.lemmas.List.{append-nil, append_assoc, map-append}
use Rattle.machines.specs.Event.{Event}
use Rattle.machines.specs.Journal as journal
use Rattle.machines.specs.Run.{IsRun}
use Rattle.machines.specs.Work.{Work, IsExhausted}
use Rattle.machines.proofs.Runs.{run_joined}
use Rattle.flows.specs.Entries.{Entry, Did}
use Rattle.flows.specs.Tasks.{State, fresh, Next, goes, Job, next, moves, move_of}
use Rattle.program_families.specs.Following.{noted, Follows, ComesNext}
use Rattle.program_families.specs.Causes.{IsOut}

noted_events : (es : List Event) → map noted (map Did es) ≡ map journal.Did es
noted_events [] = refl
noted_events (e ∷ es) = ap (λ l. journal.Did e ∷ l) (noted_events es)

module _ (n : ℕ) (j : Job) where
  pub follows_begun : (es : List journal.Entry) → Follows n j es es fresh
  unfolding IsRun
  follows_begun es = record { entries = []; order = sym (append-nil es); run = refl }

  module _ (start : List journal.Entry) where
    pub next_comes : {es : List journal.Entry} (x y : Next) → x ≡ y → ComesNext n j start es x
        → ComesNext n j start es y
    next_comes x y e c = record { state = c.state; follows = c.follows; is = c.is ∙ e }

    pub follows_then : (es : List journal.Entry) (s t : State) (e : Entry)
        → Follows n j start es s → next n j s ≡ goes e t
        → Follows n j start (es ++ noted e ∷ []) t
    unfolding IsRun
    follows_then es s t e f c = record {
      entries = f.entries ++ e ∷ [];
      order =
          ap (λ l. l ++ noted e ∷ []) f.order
          ∙ append_assoc start (map noted f.entries) (noted e ∷ [])
          ∙ ap (λ l. start ++ l) (sym (map-append noted f.entries (e ∷ [])));
      run =
          run_joined (moves n j) fresh s t f.entries (e ∷ []) f.run
          (t, ap (move_of n j) c, refl);
    }

    module _ {S : Type 0} (step : S → Option (Event × S)) (at : S → State)
        (along : (s u : S) (e : Event) → step s ≡ Some (e, u)
        → next n j (at s) ≡ goes (Did e) (at u)) where
      lifted : (es : List Event) (s u : S) → IsRun step s es u
          → IsRun (moves n j) (at s) (map Did es) (at u)
      unfolding IsRun
      lifted [] s u h = ap at h
      lifted (e ∷ es) s u (v, c, r) = (at v, ap (move_of n j) (along s v e c), lifted es v u r)

      module _ (before after : List journal.Entry) where
        pub work_follows : (s u : S) → Work step s before after u
            → Follows n j start before (at s) → Follows n j start after (at u)
        work_follows s u w f = record {
          entries = f.entries ++ map Did w.events;
          order =
              w.entries
              ∙ ap (λ l. l ++ map journal.Did w.events) f.order
              ∙ append_assoc start (map noted f.entries) (map journal.Did w.events)
              ∙ ap (λ l. start ++ (map noted f.entries ++ l)) (sym (noted_events w.events))
              ∙ ap (λ l. start ++ l) (sym (map-append noted f.entries (map Did w.events)));
          run =
              run_joined (moves n j) fresh (at s) (at u) f.entries (map Did w.events) f.run
              (lifted w.events s u w.run);
        }

        pub work_out : (limit : ℕ) (s : S) → IsExhausted step s limit before after
            → Follows n j start before (at s) → IsOut n j start after limit
        work_out limit s x f = record {
          state = at x.at;
          follows = work_follows s x.at x.work f;
          entry = Did x.event;
          following = at x.following;
          comes = along x.at x.following x.event x.comes;
          unit = x.unit;
          exhausted = x.exhausted;
        }
