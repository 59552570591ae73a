-- Where an analysis stands, as the entries of a journal tell.
--   IsGoing A es           the es are those of a run of the machine on which no task is too long, but for that of the last state
--   Comes A es step        and this comes next; nor is that of the last state
--   IsStopped A task es    they lead to a state of this task in which what is made next is past
--   IsLongAt A task es     they lead to a state of this task in which the compositions that it begins with are too long
--   IsOut A limit es       as many of them are units as the limit, and a unit comes next
--   Refuses A after e      what the refusal e tells of the journal `after`
use Rattle.std.specs.Prelude.{◌≡◌, ℕ, true, List}
use Rattle.machines.specs.Journal.{Entry, Task, Journal, counts, units_of}
use Rattle.machines.specs.Run.{IsRun}
use Rattle.rounds.specs.Analysis.{Setting, State, fresh, Step, goes, next}
use Rattle.rounds.specs.Past.{IsPast, task_of}
use Rattle.journal.specs.View as view
use Rattle.invariant_fix.specs.Long.{IsLong, short_moves}
use Rattle.invariant_fix.specs.declared.errors.AnalyseError.{AnalyseError}
use Rattle.invariant_fix.specs.declared.errors.AnalyseError.TheVariants.{Map, Branch, Limit, Wide, Budget, Memory}

module _ (A : Setting) where
  pub record IsGoing (es : List Entry) : Type 0 where
    pub state : State
    pub run : IsRun (short_moves A) fresh es state

  pub record Comes (es : List Entry) (step : Step) : Type 0 where
    pub state : State
    pub run : IsRun (short_moves A) fresh es state
    pub is : next A state ≡ step
    pub short : IsLong A state → ⊥

  pub record IsStopped (task : Task) (es : List Entry) : Type 0 where
    pub state : State
    pub run : IsRun (short_moves A) fresh es state
    pub is_task : task_of state ≡ task
    pub past : IsPast A state

  pub record IsLongAt (task : Task) (es : List Entry) : Type 0 where
    pub state : State
    pub run : IsRun (short_moves A) fresh es state
    pub is_task : task_of state ≡ task
    pub long : IsLong A state

  pub record IsOut (limit : ℕ) (es : List Entry) : Type 0 where
    pub entry : Entry
    pub following : State
    pub comes : Comes es (goes entry following)
    pub unit : counts entry ≡ true
    pub exhausted : units_of es ≡ limit

  abbrev pub Refuses : Journal → AnalyseError → Type 0
  Refuses after (Map e) = ⊥
  Refuses after (Branch b e) = ⊥
  Refuses after (Limit task) = IsLongAt (view.task_of task) after.entries
  Refuses after (Wide task) = IsStopped (view.task_of task) after.entries
  Refuses after Budget = IsOut after.limit after.entries
  Refuses after Memory = IsGoing after.entries
