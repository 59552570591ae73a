-- Where `limit: PLACE` is told: what a task of the analysis begins with multiplies out to too many terms.
--   limit_text place             the text that tells this place
--   IfLimit said T               where this is what is said, T of the place
--   IsLongTask l given m place   the entries of m follow l, from what is given, up to the task at this place, which is too long
--   IsLongLoop l m place         the maps of l are free, its branches have closed forms, and so it is of m
--   IsToldLong text m place      the bytes are a loop, and so it is of this
--   ComesToLong l                the analysis comes to a task that is too long
--   TellsLong l m said           a place is said, and the task at it is too long
--   EndsLong call l              the call tells such a place as a fault, or ends with a number that doesn't fit, or with an exhausted budget, or is excused
use Rattle.std.specs.Prelude.{◌≡◌, ◌⊎◌, ℕ, List, ◌++◌, Option, None, Ok, codes}
use Rattle.algebra.specs.Fraction.{Fraction}
use Rattle.polynomials.specs.Terms.{Terms}
use Rattle.machines.specs.Journal.{Journal, Entry as Made}
use Rattle.loops.specs.Program.{Expr, Program}
use Rattle.loop_model.specs.Maps.{AreFree}
use Rattle.loop_text.specs.LoopReader.{loop_of}
use Rattle.rounds.specs.Analysis.{State}
use Rattle.rounds.specs.Journal.{setting_of, Follows}
use Rattle.journal.specs.View as view
use Rattle.journal.specs.declared.Task.{Task}
use Rattle.invariant_fix.specs.Long.{IsLong}
use Rattle.invariant_fix.specs.Refusals.{AllHaveForms, HasLongFrom}
use Rattle.io_edge.specs.declared.answer.Status.TheVariants as status
use Rattle.io_edge.specs.Texts.{line}
use Rattle.io_edge.specs.Outcome.{Call}
use Rattle.io_edge.specs.Clauses.{Wrote, IsExcused}
use Rattle.analysis_commands.specs.RefusalTexts.{place_text}

abbrev pub limit_text : List ℕ → List ℕ
limit_text place = line (codes "limit: " ++ place)

abbrev pub IfLimit : List ℕ → (List ℕ → Type 0) → Type 0
IfLimit said T = (place : List ℕ) → said ≡ limit_text place → T place

pub record IsLongTask (l : Program (Expr ℕ)) (given : Option (List (Terms Fraction)))
    (m : Journal) (place : List ℕ) : Type 0 where
  pub task : Task
  pub at : place ≡ place_text task
  pub long : HasLongFrom l given (view.task_of task) m.entries

pub record IsLongLoop (l : Program (Expr ℕ)) (m : Journal) (place : List ℕ) : Type 0 where
  pub free : AreFree l
  pub forms : AllHaveForms l
  pub long : IsLongTask l None m place

pub record IsToldLong (text : List ℕ) (m : Journal) (place : List ℕ) : Type 0 where
  pub loop : Program (Expr ℕ)
  pub is_loop : loop_of text ≡ Ok loop
  pub is : IsLongLoop loop m place

pub record ComesToLong (l : Program (Expr ℕ)) : Type 0 where
  pub entries : List Made
  pub state : State
  pub follows : Follows l None entries state
  pub long : IsLong (setting_of l follows.forms None) state

pub record TellsLong (l : Program (Expr ℕ)) (m : Journal) (said : List ℕ) : Type 0 where
  pub place : List ℕ
  pub says : said ≡ limit_text place
  pub long : IsLongTask l None m place

abbrev pub EndsLong : Call → Program (Expr ℕ) → Type 0
EndsLong call l =
    ((call.status ≡ status.Fault) × Wrote call.sink (TellsLong l call.meter.after))
    ⊎ ((call.status ≡ status.Wide) ⊎ ((call.status ≡ status.Budget) ⊎ IsExcused call.status))
