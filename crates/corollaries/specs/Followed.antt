-- Traces of a loop, and where they may stop.
--   Follows program rounds es s       the entries es are the beginning of a trace of so many rounds, and lead to the state s; each branch has a form that is the
--                                     state from 0 on
--   IsFinished program rounds es done they are all of it, and it has given `done`
--   IsOut program rounds limit es     they have as many units as the limit, and what comes next is a unit
--   IsPast A s                        the weight of making a task's starting list, or of the event that comes next, is past; task_of s: that task
use Rattle.std.specs.Prelude.{◌≡◌, ◌⊎◌, ℕ, true, List, [], ◌∷◌, map, Some, None}
use Rattle.algebra.specs.Fraction.{Fraction, rationals, fractions}
use Rattle.polynomials.specs.Order.{Rank, grevlex}
use Rattle.polynomials.specs.Terms.{Terms}
use Rattle.machines.specs.Division as division
use Rattle.machines.specs.Completion as completion
use Rattle.machines.specs.Elimination.{free_part}
use Rattle.machines.specs.Journal as journal
use Rattle.machines.specs.Journal.{Entry, Task, counts, units_of}
use Rattle.machines.specs.Past as machine
use Rattle.machines.specs.Run.{IsRun, HasEnded}
use Rattle.machines.specs.Tidying as tidying
use Rattle.loops.specs.Program.{Expr, Program}
use Rattle.rounds.specs.Analysis.{Setting, Work, block, order}
use Rattle.rounds.specs.Journal.{setting_of, AreForms}
use Rattle.rounds.specs.Past.{IsPastStarting, task_of_work}
use Rattle.corollaries.specs.Full.{WrittenForm, as_form}
use Rattle.corollaries.specs.Trace.{Dividend, Results, State, fresh, completing, dividing, tidying_up, linking, Step, goes, finished, list_dividends, link_dividends, next, moves}

module _ {At : Type 0} (program : Program (Expr At)) (rounds : ℕ) where
  pub record Follows (es : List Entry) (s : State) : Type 0 where
    pub forms : List WrittenForm
    pub are_forms : AreForms program (map as_form forms)
    pub run : IsRun (moves (setting_of program (map as_form forms) None) rounds) fresh es s

  pub record ComesNext (es : List Entry) (step : Step) : Type 0 where
    pub state : State
    pub follows : Follows es state
    pub is : next (setting_of program (map as_form follows.forms) None) rounds state ≡ step

  abbrev pub IsFinished : List Entry → Results → Type 0
  IsFinished es done = ComesNext es (finished done)

  pub record IsOut (limit : ℕ) (es : List Entry) : Type 0 where
    pub entry : Entry
    pub state : State
    pub comes : ComesNext es (goes entry state)
    pub unit : counts entry ≡ true
    pub exhausted : units_of es ≡ limit

-- ---- what is past
-- of the event of a division that comes next, or, where it has ended, of what comes later
abbrev pub IsPastDividing : Rank → List (Terms Fraction) → division.State Fraction → Type 0
    → Type 0
IsPastDividing O gs d later =
    machine.IsPastDivision fractions rationals gs d
    ⊎ (HasEnded (division.next rationals O gs) d × later)

-- of the first event of the divisions that are left
unfoldable pub IsPastDividends : Rank → List (Terms Fraction) → List Dividend → Type 0 → Type 0
IsPastDividends O gs [] later = later
IsPastDividends O gs ((Some a, p) ∷ left) later = machine.IsPastPair fractions rationals gs a
IsPastDividends O gs ((None, p) ∷ left) later =
    IsPastDividing O gs (division.initial_state gs p) (IsPastDividends O gs left later)

module _ (A : Setting) where
  abbrev pub IsPastTidying : Work → List (Terms Fraction) → List (Terms Fraction) → Type 0
  IsPastTidying w list gs =
      machine.IsPastTidying fractions rationals gs
      ⊎ (HasEnded (tidying.next rationals grevlex) gs
      × IsPastDividends grevlex gs (link_dividends A w list) ⊥)

  abbrev pub IsPastDivided : Work → List (Terms Fraction) → List Dividend → Type 0
  IsPastDivided w gs left =
      IsPastDividends (order A w) gs left (IsPastTidying w gs
      (tidying.by_lead grevlex (free_part (block A w) gs)))

  abbrev pub IsPastCompleting : Work → completion.State Fraction → Type 0
  IsPastCompleting w s =
      machine.IsPastCompletion fractions rationals s
      ⊎ (HasEnded (completion.next rationals (order A w)) s
      × IsPastDivided w s.basis (list_dividends A w s.basis))

  abbrev pub IsPastEvent : State → Type 0
  IsPastEvent fresh = ⊥
  IsPastEvent (completing done w s) = IsPastCompleting w s
  IsPastEvent (dividing done w gs row d) =
      IsPastDividing (order A w) gs d (IsPastDivided w gs row.left)
  IsPastEvent (tidying_up done w t gs) = IsPastTidying w t.list gs
  IsPastEvent (linking done w t out row d) =
      IsPastDividing grevlex out d (IsPastDividends grevlex out row.left ⊥)

  abbrev pub IsPastTask : State → Type 0
  IsPastTask fresh = ⊥
  IsPastTask (completing done w s) = IsPastStarting A w
  IsPastTask (dividing done w gs row d) = IsPastStarting A w
  IsPastTask (tidying_up done w t gs) = IsPastStarting A w
  IsPastTask (linking done w t out row d) = IsPastStarting A w

  abbrev pub IsPast : State → Type 0
  IsPast s = IsPastTask s ⊎ IsPastEvent s

abbrev pub task_of : State → Task
task_of fresh = journal.Start
task_of (completing done w s) = task_of_work w
task_of (dividing done w gs row d) = task_of_work w
task_of (tidying_up done w t gs) = task_of_work w
task_of (linking done w t out row d) = task_of_work w
