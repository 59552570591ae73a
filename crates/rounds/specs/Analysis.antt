-- The analysis of a loop, as a machine: what comes next is a function of the state. Branches, elements and iterations count from 0 in states.
--   Setting           what the analysis is of: the number of variables, the start list, each branch's map and its form, a reduced basis that it begins with in place of
--                     that of the start list, if one is given, and a polynomial that is asked for, if one is
--   with_asked p A    the setting A where p is asked for
--   Work              what a completion and a tidying are for: `gs` is the list of the round before, `so_far` the list so far, which is gs before the first branch,
--                     `before` that of the iterations taken so far, `ks` that of one iteration more
--   block w, order w  how many variables it eliminates, and its order
--   starting w        the list that it begins with, before zeros are left out and each element is made monic
--   machine_of w      the elimination that it is;  list_at w s: its list in the state s
--   pullback b g, pulled back b g     g with the map of branch b, and with its inverse form, for the variables; backwards b: that form
--   iterations_of b        how many iterations of branch b are taken one by one: one less than from which on its form is the state
--   State             of the analysis; Step: what comes next: an entry, or the end
--   first_step gs     what comes first: the first task, or what comes when it has ended with the list that is given
--   next s            what comes next
--   begin_branch k b gs so_far     the first task of branch b
--   start_of w           the state in which a work begins; after w gs: what comes next when it has ended with gs
--   closing_from k b i gs      the closing tests of round k, from branch b and element i on
--   moves s           the entry that comes next, if one does, and the state after it
use Rattle.std.specs.Prelude.{ℕ, zero, suc, pred, ◌&&◌, cond, ltb, List, [], map, length, get_or, Option, Some, None}
use Rattle.algebra.specs.Fraction.{Fraction, ℚ, rationals, fractions}
use Rattle.polynomials.specs.Terms.{Terms, compose}
use Rattle.polynomials.specs.Order.{Rank, grevlex, blocks}
use Rattle.machines.specs.Event.{Event}
use Rattle.machines.specs.Collect.{collect}
use Rattle.machines.specs.Elimination as elimination
use Rattle.machines.specs.Elimination.{free_part, blend}
use Rattle.machines.specs.Journal as journal
use Rattle.machines.specs.Journal.{Entry, Begin, Did}
use Rattle.machines.specs.Machine.{Machine}
use Rattle.machines.specs.Machines as machines
use Rattle.machines.specs.Division as division
use Rattle.rounds.specs.Form.{Form, inverse_of_form, pulled_back_by, orbit_front, orbit_list, iteration_front, iteration_list}

pub record Setting : Type 0 where
  pub arity : ℕ
  pub starts : List (Terms Fraction)
  pub maps : List (List (Terms Fraction))
  pub forms : List Form
  pub given : Option (List (Terms Fraction))
  pub asked : Option (Terms Fraction)

pub data Work : Type 0 where
  starts : Work
  iteration : (k b n : ℕ) (gs before so_far : List (Terms Fraction)) → Work
  iteration_meet : (k b n : ℕ) (gs so_far ks : List (Terms Fraction)) → Work
  orbit : (k b : ℕ) (gs so_far : List (Terms Fraction)) → Work
  meet : (k b : ℕ) (gs so_far orbit : List (Terms Fraction)) → Work

pub data State : Type 0 where
  fresh : State
  working : Work → elimination.State Fraction → State
  closing : (k b i : ℕ) (gs : List (Terms Fraction)) → division.State Fraction → State
  turning : (k : ℕ) (gs : List (Terms Fraction)) → State
  asking : (k : ℕ) (gs : List (Terms Fraction)) → division.State Fraction → State

pub data Step : Type 0 where
  goes : Entry → State → Step
  finished : (k : ℕ) (gs : List (Terms Fraction)) → Step
  answered : (k : ℕ) (gs : List (Terms Fraction)) → division.State Fraction → Step

abbrev pub with_asked : Option (Terms Fraction) → Setting → Setting
with_asked p A = record {
  arity = A.arity;
  starts = A.starts;
  maps = A.maps;
  forms = A.forms;
  given = A.given;
  asked = p;
}

module _ (A : Setting) where
  abbrev pub form_of : ℕ → Form
  form_of b = get_or A.forms b (record { base = []; polys = []; since = 0 })

  -- how many variables stand in front in the orbit of branch b, and in an iteration
  abbrev pub front_of : ℕ → ℕ
  front_of b = orbit_front (form_of b) A.arity

  abbrev pub copies_of : ℕ → ℕ
  copies_of b = iteration_front (form_of b) A.arity

  abbrev pub iterations_of : ℕ → ℕ
  iterations_of b = pred (form_of b).since

  unfoldable pub block : Work → ℕ
  block starts = 0
  block (iteration k b n gs before so_far) = copies_of b
  block (iteration_meet k b n gs so_far ks) = 1
  block (orbit k b gs so_far) = front_of b
  block (meet k b gs so_far hs) = 1

  abbrev pub order : Work → Rank
  order starts = grevlex
  order (iteration k b n gs before so_far) = blocks (copies_of b) grevlex grevlex
  order (iteration_meet k b n gs so_far ks) = blocks 1 grevlex grevlex
  order (orbit k b gs so_far) = blocks (front_of b) grevlex grevlex
  order (meet k b gs so_far hs) = blocks 1 grevlex grevlex

  abbrev pub pulled_back : ℕ → Terms Fraction → Terms Fraction
  pulled_back b g =
      pulled_back_by (length (form_of b).base) A.arity (inverse_of_form (form_of b)) g

  unfoldable pub starting : Work → List (Terms Fraction)
  starting starts = map (collect rationals grevlex) A.starts
  starting (iteration k b n gs before so_far) = iteration_list (form_of b) A.arity
      (get_or A.maps b []) before
  starting (iteration_meet k b n gs so_far ks) = blend rationals (blocks 1 grevlex grevlex) so_far
      ks
  starting (orbit k b gs so_far) = orbit_list (form_of b) A.arity gs
  starting (meet k b gs so_far hs) = blend rationals (blocks 1 grevlex grevlex) so_far hs

  -- an element with the branch's map for its variables
  abbrev pub pullback : ℕ → Terms Fraction → Terms Fraction
  pullback b g = collect rationals grevlex (compose ℚ A.arity g (get_or A.maps b []))

  abbrev pub machine_of : Work → Machine (elimination.State Fraction)
  machine_of w = machines.elimination fractions (order w) grevlex (free_part (block w)) (starting w)

  abbrev pub list_at : Work → elimination.State Fraction → List (Terms Fraction)
  list_at w s = elimination.list_of grevlex (free_part (block w)) s

  abbrev pub start_of : Work → State
  start_of w = working w (elimination.initial_state rationals (order w) (starting w))

  -- ---- the closing tests of round k, from branch b and element i on
  abbrev pub after_closing : Option (Terms Fraction) → ℕ → List (Terms Fraction) → Step
  after_closing None k gs = finished k gs
  after_closing (Some p) k gs =
      goes (Begin journal.Member) (asking k gs (division.initial_state gs p))

  abbrev pub test : ℕ → ℕ → ℕ → List (Terms Fraction) → Step
  test k b i gs =
      goes (Begin (journal.Closed k (suc b) (suc i)))
      (closing k b i gs (division.initial_state gs (pullback b (get_or gs i []))))

  unfoldable pub closing_from : ℕ → ℕ → ℕ → List (Terms Fraction) → Step
  closing_from k b i gs =
      cond (ltb i (length gs)) (test k b i gs)
      (cond (ltb 0 (length gs) && ltb (suc b) (length A.forms)) (test k (suc b) 0 gs)
      (after_closing A.asked k gs))

  -- ---- what follows a task that has ended with a list
  abbrev pub begin_iteration : ℕ → ℕ → ℕ → List (Terms Fraction) → List (Terms Fraction)
      → List (Terms Fraction) → Step
  begin_iteration k b n gs before so_far =
      goes (Begin (journal.Iteration k (suc b) (suc n)))
      (start_of (iteration k b n gs before so_far))

  abbrev pub begin_orbit : ℕ → ℕ → List (Terms Fraction) → List (Terms Fraction) → Step
  begin_orbit k b gs so_far = goes (Begin (journal.Orbit k (suc b)))
      (start_of (orbit k b gs so_far))

  abbrev pub begin_meet : ℕ → ℕ → List (Terms Fraction) → List (Terms Fraction)
      → List (Terms Fraction) → Step
  begin_meet k b gs so_far hs =
      goes (Begin (journal.Meet k (suc b))) (start_of (meet k b gs so_far hs))

  -- n iterations are taken
  unfoldable pub after_iterations : ℕ → ℕ → ℕ → List (Terms Fraction) → List (Terms Fraction)
      → List (Terms Fraction) → Step
  after_iterations k b n gs before so_far =
      cond (ltb n (iterations_of b)) (begin_iteration k b n gs before so_far)
      (begin_orbit k b gs so_far)

  abbrev pub begin_branch : ℕ → ℕ → List (Terms Fraction) → List (Terms Fraction) → Step
  begin_branch k b gs so_far = after_iterations k b 0 gs gs so_far

  -- the list so far after branch b
  unfoldable pub after_branch : ℕ → ℕ → List (Terms Fraction) → List (Terms Fraction) → Step
  after_branch k b gs hs =
      cond (ltb (suc b) (length A.forms)) (begin_branch k (suc b) gs hs) (closing_from k 0 0 hs)

  -- the orbit of the first branch is the list so far, where its form is the state from 0 on
  abbrev pub after_orbit : ℕ → ℕ → ℕ → List (Terms Fraction) → List (Terms Fraction)
      → List (Terms Fraction) → Step
  after_orbit zero k zero gs so_far hs = after_branch k zero gs hs
  after_orbit zero k (suc b) gs so_far hs = begin_meet k (suc b) gs so_far hs
  after_orbit (suc d) k b gs so_far hs = begin_meet k b gs so_far hs

  unfoldable pub after : Work → List (Terms Fraction) → Step
  after starts gs = closing_from 0 0 0 gs
  after (iteration k b n gs before so_far) ks =
      goes (Begin (journal.IterationMeet k (suc b) (suc n)))
      (start_of (iteration_meet k b n gs so_far ks))
  after (iteration_meet k b n gs so_far ks) ls = after_iterations k b (suc n) gs ks ls
  after (orbit k b gs so_far) hs = after_orbit (form_of b).since k b gs so_far hs
  after (meet k b gs so_far hs) ls = after_branch k b gs ls

  -- ---- what follows in a task
  abbrev pub next_work : Work → elimination.State Fraction
      → Option (Event × elimination.State Fraction) → Step
  next_work w s None = after w (list_at w s)
  next_work w s (Some (e, t)) = goes (Did e) (working w t)

  -- by the rest: none is closed, another begins a round
  abbrev pub after_test : ℕ → ℕ → ℕ → List (Terms Fraction) → Option (Terms Fraction) → Step
  after_test k b i gs None = closing_from k b (suc i) gs
  after_test k b i gs (Some rest) = goes (Begin (journal.Round (suc k))) (turning (suc k) gs)

  abbrev pub closed_by : ℕ → ℕ → ℕ → List (Terms Fraction) → division.State Fraction
      → Option (Event × division.State Fraction) → Step
  closed_by k b i gs s None = after_test k b i gs s.current
  closed_by k b i gs s (Some (e, t)) = goes (Did e) (closing k b i gs t)

  abbrev pub asked_by : ℕ → List (Terms Fraction) → division.State Fraction
      → Option (Event × division.State Fraction) → Step
  asked_by k gs s None = answered k gs s
  asked_by k gs s (Some (e, t)) = goes (Did e) (asking k gs t)

  abbrev pub first_step : Option (List (Terms Fraction)) → Step
  first_step None = goes (Begin journal.Start) (start_of starts)
  first_step (Some gs) = after starts gs

  unfoldable pub next : State → Step
  next fresh = first_step A.given
  next (working w s) = next_work w s (elimination.next rationals (order w) grevlex
      (free_part (block w)) s)
  next (closing k b i gs s) = closed_by k b i gs s (division.next rationals grevlex gs s)
  next (turning k gs) = begin_branch k 0 gs gs
  next (asking k gs s) = asked_by k gs s (division.next rationals grevlex gs s)

  abbrev pub move_of : Step → Option (Entry × State)
  move_of (goes e s) = Some (e, s)
  move_of (finished k gs) = None
  move_of (answered k gs s) = None

  abbrev pub moves : State → Option (Entry × State)
  moves s = move_of (next s)
