-- Where a trace stands, as entries tell, and what comes next.
--   IsGoing A rounds es                the es are those of a run of the trace
--   Comes A rounds es step             and this comes next
--   Awaits A rounds es task step past  so, in this task, and where `past` the weight of what comes next is past
--   IsStopped A rounds task es         they lead to a state of this task in which what is made next is past
--   IsOutOf A rounds limit es          as many of them are units as the limit, and a unit comes next
--   Refuses A rounds task after r      what the refusal r in this task tells of the journal `after`
use Rattle.std.specs.Prelude.{◌≡◌, ℕ, true, List}
use Rattle.machines.specs.Journal.{Entry, Task, Journal, counts, units_of}
use Rattle.machines.specs.Machine.{Refusal, too_wide, out_of_units, out_of_memory}
use Rattle.machines.specs.Run.{IsRun}
use Rattle.rounds.specs.Analysis.{Setting}
use Rattle.corollaries.specs.Trace.{State, fresh, Step, goes, next, moves}
use Rattle.corollaries.specs.Followed.{IsPastEvent, IsPast, task_of}

module _ (A : Setting) (rounds : ℕ) where
  pub record IsGoing (es : List Entry) : Type 0 where
    pub state : State
    pub run : IsRun (moves A rounds) fresh es state

  pub record Comes (es : List Entry) (step : Step) : Type 0 where
    pub state : State
    pub run : IsRun (moves A rounds) fresh es state
    pub is : next A rounds state ≡ step

  pub record Awaits (es : List Entry) (task : Task) (step : Step) (past : Type 0) : Type 0 where
    pub state : State
    pub run : IsRun (moves A rounds) fresh es state
    pub in_task : task_of state ≡ task
    pub is : next A rounds state ≡ step
    pub past_next : past → IsPastEvent A state

  pub record IsStopped (task : Task) (es : List Entry) : Type 0 where
    pub state : State
    pub run : IsRun (moves A rounds) fresh es state
    pub in_task : task_of state ≡ task
    pub past : IsPast A state

  pub record IsOutOf (limit : ℕ) (es : List Entry) : Type 0 where
    pub entry : Entry
    pub following : State
    pub comes : Comes es (goes entry following)
    pub unit : counts entry ≡ true
    pub exhausted : units_of es ≡ limit

  abbrev pub Refuses : Task → Journal → Refusal → Type 0
  Refuses task after too_wide = IsStopped task after.entries
  Refuses task after out_of_units = IsOutOf after.limit after.entries
  Refuses task after out_of_memory = IsGoing after.entries
