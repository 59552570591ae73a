-- What a trace of a loop gives, and why there is none.
--   HasFollowed program rounds es        the es are none, or the beginning of a trace of so many rounds
--   IsTraceOf program rounds es t        the es are all of it, and t has its forms, its start and its rounds
--   HasStopped program rounds task es    the es are the beginning of one, and what is made next in this task is past
--   IsStopped program rounds after e     what the refusal e of a trace tells of the program, and of the journal after; it is none of a map or of a branch
--   IsTraceIn m t                        the parts of a trace have the variables and orders that they should have, over m variables
use Rattle.std.specs.Prelude.{◌≡◌, ◌⊎◌, ℕ, List, [], All, map, None}
use Rattle.machines.specs.Journal.{Entry, Task, Journal}
use Rattle.loops.specs.Program.{Expr, Program}
use Rattle.rounds.specs.Journal.{setting_of}
use Rattle.journal.specs.View as view
use Rattle.corollaries.specs.Full.{as_form}
use Rattle.corollaries.specs.Trace.{State, Results}
use Rattle.corollaries.specs.Followed.{Follows, IsFinished, IsOut, IsPast, task_of}
use Rattle.task_lists.specs.Images.{ArePolys, AreRows, IsFormOver}
use Rattle.task_lists.specs.View.{form_in, start_in}
use Rattle.task_lists.specs.Images.{AreBranchesIn}
use Rattle.task_lists.specs.View.{round_in}
use Rattle.invariant_fix.specs.declared.errors.AnalyseError.{AnalyseError}
use Rattle.invariant_fix.specs.declared.errors.AnalyseError.TheVariants.{Map, Branch, Limit, Wide, Budget, Memory}
use Rattle.full_trace.specs.declared.found.Trace.{Trace}

module _ (program : Program (Expr ℕ)) (rounds : ℕ) where
  pub record IsFollowing (es : List Entry) : Type 0 where
    pub state : State
    pub follows : Follows program rounds es state

  abbrev pub HasFollowed : List Entry → Type 0
  HasFollowed es = (es ≡ []) ⊎ IsFollowing es

  pub record IsTraceOf (es : List Entry) (t : Trace) : Type 0 where
    pub given : Results
    pub finished : IsFinished program rounds es given
    pub forms : map form_in t.forms.items ≡ finished.follows.forms
    pub start : start_in t.start ≡ (given.start_out, given.start_links)
    pub rounds_are : map round_in t.rounds.items ≡ given.rounds

  pub record HasStopped (task : Task) (es : List Entry) : Type 0 where
    pub state : State
    pub follows : Follows program rounds es state
    pub in_task : task_of state ≡ task
    pub past : IsPast (setting_of program (map as_form follows.forms) None) state

  abbrev pub IsStopped : Journal → AnalyseError → Type 0
  IsStopped after (Map e) = ⊥
  IsStopped after (Branch b e) = ⊥
  IsStopped after (Limit task) = ⊥
  IsStopped after (Wide task) = HasStopped (view.task_of task) after.entries
  IsStopped after Budget = IsOut program rounds after.limit after.entries
  IsStopped after Memory = HasFollowed after.entries

pub record IsTraceIn (m : ℕ) (t : Trace) : Type 0 where
  pub forms : All (IsFormOver m) t.forms.items
  pub out : ArePolys m t.start.out
  pub links : AreRows m t.start.links
  pub rounds : All (AreBranchesIn m t.forms.items) t.rounds.items
