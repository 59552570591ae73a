-- The tasks of a trace that have a stage, and what follows a task.
--   orbit_eliminates, meet_eliminates     an orbit and an intersection eliminate variables
--   task_stopped, task_lost      behind its beginning: where the weight of making what it begins with is past, and where memory is wanting
--   after_start, after_first, after_orbit, after_meet     what follows a task, by its kind
--   branch_next, branch_last     the next branch, or the end of the round
--   round_next       the next round
use Rattle.std.proofs.Common.{◌≡◌, ℕ, zero, suc, ◌<◌, ◌≤◌, Bool, true, false, cond, ltb, ltb-true, List, [], ◌∷◌, ◌++◌, length, inl, refl, ap, arith}
use Rattle.std.proofs.lemmas.Bool.{lt-ltb}
use Rattle.algebra.specs.Fraction.{Fraction}
use Rattle.polynomials.specs.Terms.{Terms}
use Rattle.machines.specs.Journal as journal
use Rattle.machines.specs.Journal.{Entry, Begin}
use Rattle.machines.specs.Run.{IsRun}
use Rattle.machines.proofs.Runs.{run_then}
use Rattle.rounds.specs.Analysis.{Setting, Work, starts, orbit, meet, block, front_of, starting}
use Rattle.rounds.specs.Past.{IsPastStarting, task_of_work}
use Rattle.corollaries.specs.Coming.{IsGoing, Comes, IsStopped}
use Rattle.corollaries.specs.Trace.{Results, with_round, fresh, Step, goes, finished, start_of, begin_orbit, after_round, after_branch, after, move_of, moves, link_dividends, stage_of}
use Rattle.corollaries.proofs.AwaitingRows.{orbit_dividends_are, meet_dividends_are}
use Rattle.corollaries.specs.Making.{Eliminates}

pub orbit_eliminates : (A : Setting) (k b : ℕ) (gs so_far : List (Terms Fraction))
    → Eliminates A (orbit k b gs so_far) (front_of A b) (starting A (orbit k b gs so_far))
unfolding block link_dividends stage_of
orbit_eliminates A k b gs so_far = record {
  order_is = refl;
  block_is = refl;
  begins = refl;
  lists = orbit_dividends_are A k b gs so_far;
  links = λ ls. refl;
  stage_is = λ t out rows. refl;
}

pub meet_eliminates : (A : Setting) (k b : ℕ) (gs so_far hs : List (Terms Fraction))
    → Eliminates A (meet k b gs so_far hs) 1 (starting A (meet k b gs so_far hs))
unfolding block link_dividends stage_of
meet_eliminates A k b gs so_far hs = record {
  order_is = refl;
  block_is = refl;
  begins = refl;
  lists = meet_dividends_are A k b gs so_far hs;
  links = λ ls. refl;
  stage_is = λ t out rows. refl;
}

-- ---- the beginning of a task
module _ (A : Setting) (rounds : ℕ) (done : Results) (w : Work) (es : List Entry)
    (c : Comes A rounds es (goes (Begin (task_of_work w)) (start_of A done w))) where
  abbrev first : List Entry
  first = es ++ Begin (task_of_work w) ∷ []

  begins : IsRun (moves A rounds) fresh first (start_of A done w)
  begins = run_then (moves A rounds) fresh c.state (start_of A done w) es (Begin (task_of_work w))
      c.run (ap (move_of A rounds) c.is)

  pub task_stopped : IsPastStarting A w → IsStopped A rounds (task_of_work w) first
  task_stopped p = record { state = start_of A done w; run = begins; in_task = refl; past = inl p }

  pub task_lost : IsGoing A rounds first
  task_lost = record { state = start_of A done w; run = begins }

-- ---- what follows a task
not_below : (a b : ℕ) → b ≤ a → ltb a b ≡ false
not_below a b l = go (ltb a b) refl
  where
    go : (z : Bool) → ltb a b ≡ z → ltb a b ≡ false
    go true e = absurd (let h : a < b = ltb-true a b e in omega (arith, l, h))
    go false e = e

module _ (A : Setting) (rounds : ℕ) (done : Results) where
  pub after_start : (gs : List (Terms Fraction))
      → after A rounds done starts gs ≡ after_round A rounds done 0 gs
  unfolding after
  after_start gs = refl

  module _ (k : ℕ) (gs so_far : List (Terms Fraction)) where
    pub after_first : (hs : List (Terms Fraction))
        → after A rounds done (orbit k zero gs so_far) hs
        ≡ after_branch A rounds done k zero gs hs
    unfolding after
    after_first hs = refl

    pub after_orbit : (b : ℕ) (hs : List (Terms Fraction))
        → after A rounds done (orbit k (suc b) gs so_far) hs
        ≡ goes (Begin (journal.Meet k (suc (suc b))))
        (start_of A done (meet k (suc b) gs so_far hs))
    unfolding after
    after_orbit b hs = refl

    pub after_meet : (b : ℕ) (hs ls : List (Terms Fraction))
        → after A rounds done (meet k b gs so_far hs) ls ≡ after_branch A rounds done k b gs ls
    unfolding after
    after_meet b hs ls = refl

  module _ (k b : ℕ) (gs hs : List (Terms Fraction)) where
    abbrev by : Bool → Step
    by z = cond z (begin_orbit A rounds done k (suc b) gs hs)
        (after_round A rounds (with_round done) k hs)

    pub branch_next : suc b < length A.forms
        → after_branch A rounds done k b gs hs ≡ begin_orbit A rounds done k (suc b) gs hs
    unfolding after_branch
    branch_next l = ap by (lt-ltb (suc b) (length A.forms) l)

    pub branch_last : length A.forms ≤ suc b
        → after_branch A rounds done k b gs hs ≡ after_round A rounds (with_round done) k hs
    unfolding after_branch
    branch_last l = ap by (not_below (suc b) (length A.forms) l)

  module _ (k : ℕ) (gs : List (Terms Fraction)) where
    pub round_next : k < rounds
        → after_round A rounds done k gs ≡ begin_orbit A rounds done (suc k) 0 gs []
    round_next l =
        ap (λ z. cond z (begin_orbit A rounds done (suc k) 0 gs []) (finished done))
        (lt-ltb k rounds l)
