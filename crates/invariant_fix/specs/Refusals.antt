-- Why an analysis gave no basis, over the program.
--   analysis_error_of e                   what an analysis answers to the refusal e of a map
--   refused_branch b e          what it answers to the refusal e of the branch b, which counts from 0
--   HasForm program b            the branch b, which counts from 1, has a closed form, and no class of its map is refused or too long
--   AllHaveForms program         that is so of each branch
--   IsRefusedBranch program b r  the branch b, which counts from 0, is the first that is refused, and r says why
--   TellsBranch program b e      so, for the refusal that the error e tells; it isn't want of memory
--   HasStoppedFrom program given task es     the es follow the program from what is given, and what is made next in this task is past
--   HasLongFrom program given task es    they do so up to this task, and the compositions that it begins with are too long
--   HasFollowedFrom program given es         the es are none, or follow the program from what is given
--   HasStopped, HasFollowed      the same from its starts
--   IfRefusedBranch program e    the refusal e is that of a branch, or want of memory
--   IfUnformedBy program os e    the refusal e is that of one of the operations os that can't be done, with none before it that passes a limit, or where all can be done it is that of a branch; IfUnformed: the os are those of the branches; IfUnformedLoop: of the start too
--   IsStoppedFrom program given after e    what the refusal e of an analysis that began with what is given tells of the program, and of the journal after; it is none of a map or of a branch
--   IsRefusedFrom program given before after e     what the refusal e tells of the program, and of the journals before and after, where the analysis begins with what is given
--   IsRefused program before after e     where it begins at the starts
use Rattle.std.specs.Prelude.{◌≡◌, ◌≢◌, ◌⊎◌, ◌<◌, ℕ, suc, List, [], length, Option, None, IsSomeAnd}
use Rattle.algebra.specs.Fraction.{Fraction}
use Rattle.polynomials.specs.Terms.{Terms}
use Rattle.machines.specs.Journal.{Entry, Task, Journal}
use Rattle.loops.specs.Program.{Expr, Program}
use Rattle.rounds.specs.Analysis.{State}
use Rattle.rounds.specs.BranchMap.{map_of}
use Rattle.rounds.specs.Form.{Form, IsClosedForm}
use Rattle.rounds.specs.Journal.{setting_from, FollowsFrom, IsOutFrom}
use Rattle.rounds.specs.Past.{IsPast, task_of}
use Rattle.loop_model.specs.Operations.{Operation, IsFree}
use Rattle.loop_model.specs.Stops.{Stops}
use Rattle.loop_model.specs.declared.map_error.MapError.{MapError}
use Rattle.loop_model.specs.declared.map_error.MapError.TheVariants as map_error
use Rattle.loop_model.specs.Maps.{branches_operations, maps_operations, AreFree}
use Rattle.solvable.specs.Refusal.{IsSolvable}
use Rattle.closed_forms.specs.Lengths.{IsShort}
use Rattle.closed_forms.specs.Refusal.{AllPass, Refusal, IfFormRefused, refusal_in}
use Rattle.closed_forms.specs.declared.errors.FormsError.{FormsError}
use Rattle.closed_forms.specs.declared.errors.FormsError.TheVariants as forms_error
use Rattle.journal.specs.View as view
use Rattle.invariant_fix.specs.Long.{IsLong}
use Rattle.invariant_fix.specs.declared.errors.AnalyseError.{AnalyseError}
use Rattle.invariant_fix.specs.declared.errors.AnalyseError.TheVariants.{Map, Branch, Limit, Wide, Budget, Memory}

abbrev pub analysis_error_of : MapError → AnalyseError
analysis_error_of (map_error.Limit at) = Map (map_error.Limit at)
analysis_error_of (map_error.Wide at) = Map (map_error.Wide at)
analysis_error_of map_error.Memory = Memory

abbrev pub refused_branch : ℕ → FormsError → AnalyseError
refused_branch b (forms_error.NotSolvable cycle) = Branch b (forms_error.NotSolvable cycle)
refused_branch b (forms_error.Eigen class) = Branch b (forms_error.Eigen class)
refused_branch b (forms_error.Range class sum) = Branch b (forms_error.Range class sum)
refused_branch b (forms_error.WideSplit class candidate power row) =
    Branch b (forms_error.WideSplit class candidate power row)
refused_branch b (forms_error.LimitForm variable) = Branch b (forms_error.LimitForm variable)
refused_branch b (forms_error.WideForm variable) = Branch b (forms_error.WideForm variable)
refused_branch b forms_error.Memory = Memory

module _ (program : Program (Expr ℕ)) where
  pub record HasForm (b : ℕ) : Type 0 where
    pub form : Form
    pub is : IsClosedForm program b form
    pub solvable : IsSolvable (map_of program b)
    pub pass : AllPass (map_of program b)
    pub short : IsShort (map_of program b)

  abbrev pub AllHaveForms : Type 0
  AllHaveForms = (b : ℕ) → b < length program.branches → HasForm (suc b)

  pub record IsRefusedBranch (b : ℕ) (r : Refusal) : Type 0 where
    pub within : b < length program.branches
    pub is : IfFormRefused (map_of program (suc b)) r
    pub before : (c : ℕ) → c < b → HasForm (suc c)

  abbrev pub TellsBranch : ℕ → FormsError → Type 0
  TellsBranch b e = IsSomeAnd (refusal_in e) (IsRefusedBranch b)

  module _ (given : Option (List (Terms Fraction))) where
    pub record HasStoppedFrom (task : Task) (es : List Entry) : Type 0 where
      pub state : State
      pub follows : FollowsFrom program given None es state
      pub is_task : task_of state ≡ task
      pub past : IsPast (setting_from program given follows.forms None) state

    pub record HasLongFrom (task : Task) (es : List Entry) : Type 0 where
      pub state : State
      pub follows : FollowsFrom program given None es state
      pub is_task : task_of state ≡ task
      pub long : IsLong (setting_from program given follows.forms None) state

    pub record IsFollowingFrom (es : List Entry) : Type 0 where
      pub state : State
      pub follows : FollowsFrom program given None es state

    abbrev pub HasFollowedFrom : List Entry → Type 0
    HasFollowedFrom es = (es ≡ []) ⊎ IsFollowingFrom es

  abbrev pub HasStopped : Task → List Entry → Type 0
  HasStopped task es = HasStoppedFrom None task es

  abbrev pub HasFollowed : List Entry → Type 0
  HasFollowed es = HasFollowedFrom None es

  abbrev pub IfRefusedBranch : AnalyseError → Type 0
  IfRefusedBranch (Map e) = ⊥
  IfRefusedBranch (Branch b e) = TellsBranch b e
  IfRefusedBranch (Limit task) = ⊥
  IfRefusedBranch (Wide task) = ⊥
  IfRefusedBranch Budget = ⊥
  IfRefusedBranch Memory = Unit {0}

  abbrev pub IfUnformedBy : List Operation → AnalyseError → Type 0
  IfUnformedBy os (Map e) = (e ≢ map_error.Memory) × Stops (length program.names) os e
  IfUnformedBy os (Branch b e) = IsFree (length program.names) os × TellsBranch b e
  IfUnformedBy os (Limit task) = ⊥
  IfUnformedBy os (Wide task) = ⊥
  IfUnformedBy os Budget = ⊥
  IfUnformedBy os Memory = Unit {0}

  abbrev pub IfUnformed : AnalyseError → Type 0
  IfUnformed e = IfUnformedBy (branches_operations program) e

  abbrev pub IfUnformedLoop : AnalyseError → Type 0
  IfUnformedLoop e = IfUnformedBy (maps_operations program) e

  abbrev pub IsStoppedFrom : Option (List (Terms Fraction)) → Journal → AnalyseError → Type 0
  IsStoppedFrom given after (Map e) = ⊥
  IsStoppedFrom given after (Branch b e) = ⊥
  IsStoppedFrom given after (Limit task) = HasLongFrom given (view.task_of task) after.entries
  IsStoppedFrom given after (Wide task) = HasStoppedFrom given (view.task_of task) after.entries
  IsStoppedFrom given after Budget = IsOutFrom program given None after.limit after.entries
  IsStoppedFrom given after Memory = HasFollowedFrom given after.entries

  abbrev pub IsRefusedFrom : Option (List (Terms Fraction)) → Journal → Journal → AnalyseError
      → Type 0
  IsRefusedFrom given before after (Map e) = (after ≡ before) × IfUnformedLoop (Map e)
  IsRefusedFrom given before after (Branch b e) = (after ≡ before) × IfUnformedLoop (Branch b e)
  IsRefusedFrom given before after (Limit task) =
      AreFree program × AllHaveForms × HasLongFrom given (view.task_of task) after.entries
  IsRefusedFrom given before after (Wide task) =
      AreFree program × AllHaveForms × HasStoppedFrom given (view.task_of task) after.entries
  IsRefusedFrom given before after Budget =
      AreFree program × AllHaveForms × IsOutFrom program given None after.limit after.entries
  IsRefusedFrom given before after Memory = HasFollowedFrom given after.entries

  abbrev pub IsRefused : Journal → Journal → AnalyseError → Type 0
  IsRefused before after e = IsRefusedFrom None before after e
