-- What `gen` of n loops promises.
--   Tallies n call       the clauses
use Rattle.std.specs.Prelude.{◌≡◌, ◌≢◌, ◌⊎◌, ℕ}
use Rattle.loop_model.specs.Maps.{AreFree}
use Rattle.command_parts.specs.Numerals.{usual_budget}
use Rattle.io_edge.specs.declared.answer.Status.TheVariants as status
use Rattle.io_edge.specs.Outcome.{Call}
use Rattle.io_edge.specs.Clauses.{Wrote, TellsWhy, IsExcused}
use Rattle.analysis_commands.specs.Completeness.{AllSplit, EndsFound}
use Rattle.analysis_commands.specs.Causes.{IsNeverLong, IsNeverRefused, IsWithinBudget}
use Rattle.analysis_commands.specs.Counting.{ShowsCounts, StopsAt, IsLongAt, IsExhaustedAt, HasCounted, IsFamily}
use Rattle.analysis_commands.specs.LongTasks.{IfLimit}

pub record Tallies (n : ℕ) (call : Call) : Type 0 where
  -- yes: the text has the counts over the bases of the first n loops of the family; each has a
  -- finished journal within the usual budget, and the entries of the meter are that of the last
  pub counts : call.status ≡ status.Yes → Wrote call.sink (ShowsCounts n call.meter.after)
  -- a fault, or a number that doesn't fit: the text tells why the first loop that has no basis has
  -- none
  pub why : TellsWhy call (StopsAt n call.meter.after)
  -- an exhausted budget, of the first loop that has no basis
  pub exhausted : call.status ≡ status.Budget → Wrote call.sink (IsExhaustedAt n call.meter.after)
  -- never no
  pub no : call.status ≢ status.No
  -- the meter is opened with the usual budget for a loop of the family, and the entries follow its
  -- analysis
  pub journal : (call.meter.after ≡ call.meter.before) ⊎ HasCounted n call.meter.after
  -- a fault that says `limit: PLACE`: the maps of one of these loops are free, each branch has a
  -- closed form, and the entries lead to the task at this place, which is too long
  pub limit_told : call.status ≡ status.Fault
      → Wrote call.sink (λ said. IfLimit said (IsLongAt n call.meter.after))
  -- the counts, but for numbers that don't fit and exhausted budgets, where the maps are free and
  -- each
  -- branch splits
  pub found : IsFamily n (λ l. AreFree l × AllSplit l × IsNeverLong l) → EndsFound call.status
  -- no budget is exhausted where each loop has a finished journal within it
  pub enough : IsFamily n (λ l. IsWithinBudget l usual_budget) → call.status ≢ status.Budget
  -- and so, where nothing refuses, there are the counts
  pub completes : IsFamily n (λ l. IsNeverRefused l × IsWithinBudget l usual_budget)
      → (call.status ≡ status.Yes) ⊎ IsExcused call.status
