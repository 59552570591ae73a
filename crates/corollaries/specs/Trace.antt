-- The trace of a loop, whose branches all have forms that are the state from 0 on, as a machine on the tasks of its analysis: what comes next is a function
-- of the state. Branches count from 0 in states.
--   Dividend                    a division that is due: the pair whose S-polynomial is divided, if it is one, and the polynomial
--   CompletedList                   what a task has told so far: the list of its completion, and the cofactors of the divisions by it
--   Results                   what the tasks before have given: the start, the rounds, of this round the branches, and of this branch the orbit; no_results at the beginning
--   with_stage done w s    and the task w the stage s;  with_round done: with the branches of this round as one more
--   State                  of the trace
--   Step                   what comes next: an entry, or the end
--   list_dividends w gs              the divisions by the completed list gs: of the polynomials that the task begins with, and of the S-polynomials of all pairs; of the start there are none
--   link_dividends w gs             what is divided by the list that the task gives: the elements of gs that are kept; of the start the polynomials of init
--   divide_from            the divisions by the completed list, from some job on; link_from: those by the list that is given
--   stage_of w t out rows  the stage of a task that has ended
--   next s, moves s        what comes next
use Rattle.std.specs.Prelude.{ℕ, zero, suc, cond, ltb, List, [], ◌∷◌, ◌++◌, map, take, drop, length, Option, Some, None}
use Rattle.algebra.specs.Fraction.{Fraction, rationals}
use Rattle.polynomials.specs.Terms.{Terms}
use Rattle.polynomials.specs.Order.{grevlex}
use Rattle.machines.specs.Event.{Event, Pair}
use Rattle.machines.specs.Elimination.{free_part}
use Rattle.machines.specs.Journal as journal
use Rattle.machines.specs.Journal.{Entry, Begin, Did}
use Rattle.machines.specs.Completion as completion
use Rattle.machines.specs.Completion.{s_polynomial}
use Rattle.machines.specs.Tidying as tidying
use Rattle.machines.specs.Division as division
use Rattle.rounds.specs.Analysis.{Setting, Work, starts, iteration, iteration_meet, orbit, meet, block, order, starting}
use Rattle.corollaries.specs.Representation.{pairs_of}
use Rattle.corollaries.specs.Stage.{Stage, no_stage}
use Rattle.corollaries.specs.Full.{BranchStages}

abbrev pub Dividend : Type 0
Dividend = Option (ℕ × ℕ) × Terms Fraction

pub record CompletedList : Type 0 where
  pub list : List (Terms Fraction)
  pub rows : List (List (Terms Fraction))

-- the divisions that are left, and what those before have given
pub record Divisions : Type 0 where
  pub rows : List (List (Terms Fraction))
  pub left : List Dividend

pub record Results : Type 0 where
  pub start_out : List (Terms Fraction)
  pub start_links : List (List (Terms Fraction))
  pub rounds : List (List BranchStages)
  pub branches : List BranchStages
  pub orbit_stage : Stage

abbrev pub no_results : Results
no_results = record {
  start_out = [];
  start_links = [];
  rounds = [];
  branches = [];
  orbit_stage = no_stage;
}

abbrev pub with_stage : Results → Work → Stage → Results
with_stage d starts s = record {
  start_out = s.out;
  start_links = s.links;
  rounds = d.rounds;
  branches = d.branches;
  orbit_stage = d.orbit_stage;
}
with_stage d (iteration k b n gs before so_far) s = d
with_stage d (iteration_meet k b n gs so_far ks) s = d
with_stage d (orbit k zero gs so_far) s = record {
  start_out = d.start_out;
  start_links = d.start_links;
  rounds = d.rounds;
  branches = record { orbit_stage = s; meet_stage = None } ∷ [];
  orbit_stage = d.orbit_stage;
}
with_stage d (orbit k (suc b) gs so_far) s = record {
  start_out = d.start_out;
  start_links = d.start_links;
  rounds = d.rounds;
  branches = d.branches;
  orbit_stage = s;
}
with_stage d (meet k b gs so_far hs) s = record {
  start_out = d.start_out;
  start_links = d.start_links;
  rounds = d.rounds;
  branches = d.branches ++ record { orbit_stage = d.orbit_stage; meet_stage = Some s } ∷ [];
  orbit_stage = d.orbit_stage;
}

abbrev pub with_round : Results → Results
with_round d = record {
  start_out = d.start_out;
  start_links = d.start_links;
  rounds = d.rounds ++ d.branches ∷ [];
  branches = [];
  orbit_stage = no_stage;
}

pub data State : Type 0 where
  fresh : State
  completing : (done : Results) → Work → completion.State Fraction → State
  dividing : (done : Results) → Work → (list : List (Terms Fraction)) → Divisions
      → division.State Fraction → State
  tidying_up : (done : Results) → Work → CompletedList → List (Terms Fraction) → State
  linking : (done : Results) → Work → CompletedList → (out : List (Terms Fraction)) → Divisions
      → division.State Fraction → State

pub data Step : Type 0 where
  goes : Entry → State → Step
  finished : (done : Results) → Step

-- the event of a computation that comes next, with the state of the trace; where it has ended, what
-- comes later
abbrev pub next_or : {S : Type 0} → (S → State) → Option (Event × S) → Step → Step
next_or at (Some (e, s)) later = goes (Did e) (at s)
next_or at None later = later

module _ (A : Setting) where
  abbrev pub start_of : Results → Work → State
  start_of done w = completing done w (completion.initial_state rationals (order A w)
      (starting A w))

  abbrev pub alone : List (Terms Fraction) → List Dividend
  alone ps = map (λ p. (None, p)) ps

  abbrev pub s_polynomials : Work → List (Terms Fraction) → List Dividend
  s_polynomials w gs =
      map (λ a. (Some a, s_polynomial rationals (order A w) gs a)) (pairs_of (length gs))

  abbrev pub all_dividends : Work → List (Terms Fraction) → List Dividend
  all_dividends w gs = alone (starting A w) ++ s_polynomials w gs

  unfoldable pub list_dividends : Work → List (Terms Fraction) → List Dividend
  list_dividends starts gs = []
  list_dividends (iteration k b n hs before so_far) gs =
      all_dividends (iteration k b n hs before so_far) gs
  list_dividends (iteration_meet k b n hs so_far ks) gs =
      all_dividends (iteration_meet k b n hs so_far ks) gs
  list_dividends (orbit k b hs so_far) gs = all_dividends (orbit k b hs so_far) gs
  list_dividends (meet k b hs so_far ls) gs = all_dividends (meet k b hs so_far ls) gs

  unfoldable pub link_dividends : Work → List (Terms Fraction) → List Dividend
  link_dividends starts gs = alone (starting A starts)
  link_dividends (iteration k b n hs before so_far) gs =
      alone (free_part (block A (iteration k b n hs before so_far)) gs)
  link_dividends (iteration_meet k b n hs so_far ks) gs = alone (free_part 1 gs)
  link_dividends (orbit k b hs so_far) gs = alone (free_part (block A (orbit k b hs so_far)) gs)
  link_dividends (meet k b hs so_far ls) gs = alone (free_part 1 gs)

  -- ---- the stages
  abbrev pub stage_from : Work → CompletedList → (out : List (Terms Fraction))
      → List (List (Terms Fraction)) → Stage
  stage_from w t out rows =
      let n : ℕ = length (starting A w) in
      record { list = t.list; gens = take n t.rows; pairs = drop n t.rows; out = out; links = rows }

  unfoldable pub stage_of : Work → CompletedList → (out : List (Terms Fraction))
      → List (List (Terms Fraction)) → Stage
  stage_of starts t out rows = record { list = []; gens = []; pairs = []; out = out; links = rows }
  stage_of (iteration k b n hs before so_far) t out rows =
      stage_from (iteration k b n hs before so_far) t out rows
  stage_of (iteration_meet k b n hs so_far ks) t out rows =
      stage_from (iteration_meet k b n hs so_far ks) t out rows
  stage_of (orbit k b hs so_far) t out rows = stage_from (orbit k b hs so_far) t out rows
  stage_of (meet k b hs so_far ls) t out rows = stage_from (meet k b hs so_far ls) t out rows

module _ (A : Setting) (rounds : ℕ) where
  -- ---- what follows a task that has ended with a list
  abbrev pub begin_orbit : Results → ℕ → ℕ → List (Terms Fraction) → List (Terms Fraction) → Step
  begin_orbit done k b gs so_far =
      goes (Begin (journal.Orbit k (suc b))) (start_of A done (orbit k b gs so_far))

  -- after round k, which ended with the list gs
  abbrev pub after_round : Results → ℕ → List (Terms Fraction) → Step
  after_round done k gs = cond (ltb k rounds) (begin_orbit done (suc k) 0 gs []) (finished done)

  unfoldable pub after_branch : Results → ℕ → ℕ → List (Terms Fraction) → List (Terms Fraction)
      → Step
  after_branch done k b gs hs =
      cond (ltb (suc b) (length A.forms)) (begin_orbit done k (suc b) gs hs)
      (after_round (with_round done) k hs)

  unfoldable pub after : Results → Work → List (Terms Fraction) → Step
  after done starts gs = after_round done 0 gs
  -- no iterations are taken one by one, where each form is the state from 0 on
  after done (iteration k b n gs before so_far) ks = finished done
  after done (iteration_meet k b n gs so_far ks) ls = finished done
  after done (orbit k zero gs so_far) hs = after_branch done k zero gs hs
  after done (orbit k (suc b) gs so_far) hs =
      goes (Begin (journal.Meet k (suc (suc b)))) (start_of A done (meet k (suc b) gs so_far hs))
  after done (meet k b gs so_far hs) ls = after_branch done k b gs ls

  -- ---- the divisions by the list that is given
  unfoldable pub link_from : Results → Work → CompletedList → (out : List (Terms Fraction))
      → List (List (Terms Fraction)) → List Dividend → Step
  link_from done w t out rows [] = after (with_stage done w (stage_of A w t out rows)) w out
  link_from done w t out rows (j ∷ left) =
      next_or (linking done w t out (record { rows = rows; left = left }))
      (division.next rationals grevlex out (division.initial_state out j.1))
      (link_from done w t out (rows ++ (division.initial_state out j.1).cofactors ∷ []) left)

  -- ---- tidying
  abbrev pub tidy_from : Results → Work → CompletedList → List (Terms Fraction) → Step
  tidy_from done w t gs =
      next_or (tidying_up done w t) (tidying.next rationals grevlex gs)
      (link_from done w t gs [] (link_dividends A w t.list))

  -- ---- the divisions by the completed list
  unfoldable pub divide_from : Results → Work → (gs : List (Terms Fraction))
      → List (List (Terms Fraction)) → List Dividend → Step
  divide_from done w gs rows [] =
      tidy_from done w (record { list = gs; rows = rows })
      (tidying.by_lead grevlex (free_part (block A w) gs))
  divide_from done w gs rows ((Some a, p) ∷ left) =
      goes (Did (Pair a.0 a.1))
      (dividing done w gs (record { rows = rows; left = left }) (division.initial_state gs p))
  divide_from done w gs rows ((None, p) ∷ left) =
      next_or (dividing done w gs (record { rows = rows; left = left }))
      (division.next rationals (order A w) gs (division.initial_state gs p))
      (divide_from done w gs (rows ++ (division.initial_state gs p).cofactors ∷ []) left)

  unfoldable pub next : State → Step
  next fresh = goes (Begin journal.Start) (start_of A no_results starts)
  next (completing done w s) =
      next_or (completing done w) (completion.next rationals (order A w) s)
      (divide_from done w s.basis [] (list_dividends A w s.basis))
  next (dividing done w gs row d) =
      next_or (dividing done w gs row) (division.next rationals (order A w) gs d)
      (divide_from done w gs (row.rows ++ d.cofactors ∷ []) row.left)
  next (tidying_up done w t gs) = tidy_from done w t gs
  next (linking done w t out row d) =
      next_or (linking done w t out row) (division.next rationals grevlex out d)
      (link_from done w t out (row.rows ++ d.cofactors ∷ []) row.left)

  abbrev pub move_of : Step → Option (Entry × State)
  move_of (goes e s) = Some (e, s)
  move_of (finished done) = None

  abbrev pub moves : State → Option (Entry × State)
  moves s = move_of (next s)
