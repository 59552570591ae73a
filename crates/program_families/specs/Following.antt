-- The entries of a task, behind those of a meter when it begins.
--   noted e               how the meter notes an entry: a task by the transition's place, the completion as what is extended, and each division as one of an image; a run as a sample
--   Follows start es s    the entries es are those at the start and, behind them, those of the task so far, which lead to the state s
--   ComesNext start es x  they lead to where x comes next
use Rattle.std.specs.Prelude.{◌≡◌, ℕ, List, ◌++◌, map}
use Rattle.machines.specs.Journal as journal
use Rattle.machines.specs.Run.{IsRun}
use Rattle.flows.specs.Entries.{Entry, Begin, Did, Run, Ideal, Image, Rest}
use Rattle.flows.specs.Tasks.{State, fresh, Next, Job, next, moves}

abbrev pub noted : Entry → journal.Entry
noted (Begin (Run k)) = journal.Begin (journal.Sample k)
noted (Begin (Ideal i)) = journal.Begin (journal.Extend i)
noted (Begin (Image i e)) = journal.Begin (journal.Image i)
noted (Begin (Rest i m)) = journal.Begin (journal.Image i)
noted (Did e) = journal.Did e

module _ (n : ℕ) (j : Job) (start es : List journal.Entry) where
  pub record Follows (s : State) : Type 0 where
    pub entries : List Entry
    pub order : es ≡ start ++ map noted entries
    pub run : IsRun (moves n j) fresh entries s

  pub record ComesNext (x : Next) : Type 0 where
    pub state : State
    pub follows : Follows state
    pub is : next n j state ≡ x
