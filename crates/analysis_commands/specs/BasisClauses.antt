-- What `basis` and `cert` promise.
--   Refuses call request a     a tells the first fault of LOOP, or why the analysis that left the meter so has no basis
--   Finds request call         the clauses
use Rattle.std.specs.Prelude.{◌≡◌, ◌≢◌, ◌⊎◌, ℕ, length, Ok, Err}
use Rattle.poly_text.specs.Reasons.{Fault, limit}
use Rattle.loop_model.specs.Operations.{IsLimit}
use Rattle.loops.specs.Program.{Expr, Program}
use Rattle.loop_model.specs.Maps.{maps_operations, AreFree}
use Rattle.closed_forms.specs.Refusal.{Refusal}
use Rattle.invariant_fix.specs.Refusals.{AllHaveForms, IsRefusedBranch}
use Rattle.io_edge.specs.declared.answer.Status.TheVariants as status
use Rattle.io_edge.specs.Texts.{Answer}
use Rattle.io_edge.specs.Outcome.{Call}
use Rattle.io_edge.specs.Clauses.{Wrote, TellsWhy, IfTold, IsExcused, Ends, EndsOrWide, EndsAtFault, EndsTooLong, IsLonger}
use Rattle.command_parts.specs.FaultTexts.{loop_refusal}
use Rattle.command_parts.specs.LoopReading.{loop_at, IsLoopFault, ReadsLoop}
use Rattle.analysis_commands.specs.RefusalTexts.{branch_answer}
use Rattle.analysis_commands.specs.Headline.{ShowsAnalysis}
use Rattle.analysis_commands.specs.Completeness.{AllSplit, EndsFound}
use Rattle.analysis_commands.specs.LongTasks.{IfLimit, IsToldLong, ComesToLong, EndsLong}
use Rattle.analysis_commands.specs.Causes.{HasFinished, IsClosed, IsExhausted, IsAnalysed, IsUnanalysed, IsNeverLong, IsNeverRefused, IsWithinBudget, IsExact}
use Rattle.analysis_commands.specs.BasisArguments.{Request}

abbrev pub Refuses : Call → Request → Answer → Type 0
Refuses call request a = IfTold call.files.before request.file
    (λ text. IsLoopFault text a ⊎ IsUnanalysed text request.budget call.meter.after a)

pub record Finds (request : Request) (call : Call) : Type 0 where
  -- yes: the text is the reduced basis of the loop's invariants, and a valid certificate has it, or
  -- the text is this certificate; the entries of the meter are those of the finished analysis
  pub basis : call.status ≡ status.Yes → IfTold call.files.before request.file
      (λ text. Wrote call.sink (ShowsAnalysis request.kind text))
  pub finished : call.status ≡ status.Yes → IfTold call.files.before request.file
      (λ text. HasFinished text request.budget call.meter.after)
  -- and the cofactors are those of the divisions that closed it
  pub closed : call.status ≡ status.Yes → IfTold call.files.before request.file
      (λ text. Wrote call.sink (IsClosed request.kind text call.meter.after))
  -- a fault, or a number that doesn't fit: the text tells the first fault of LOOP, or why the
  -- analysis has no basis
  pub why : TellsWhy call (Refuses call request)
  -- an exhausted budget: as many entries are units as the budget, and what comes next is a unit
  pub exhausted : call.status ≡ status.Budget → IfTold call.files.before request.file
      (λ text. Wrote call.sink (IsExhausted text request.budget call.meter.after))
  -- never no
  pub no : call.status ≢ status.No
  -- the meter is opened with the budget, and the entries follow the analysis of the loop
  pub journal : (call.meter.after ≡ call.meter.before)
      ⊎ IfTold call.files.before request.file
      (λ text. IsAnalysed text request.budget call.meter.after)
  -- where the bytes are told, but for want of memory and faults of the outside: the first fault
  pub loop_fault : (fault : Fault) → ReadsLoop call request.file (Err fault)
      → Ends call (loop_refusal fault)
  -- the first operation of the maps that passes a limit
  pub limit_passed : (l : Program (Expr ℕ)) (at : ℕ) → ReadsLoop call request.file (Ok l)
      → IsLimit (length l.names) (maps_operations l) at
      → EndsOrWide call (loop_refusal (record { reason = limit; at = at }))
  -- the first branch that has no closed form
  pub branch_refused : (l : Program (Expr ℕ)) (b : ℕ) (r : Refusal)
      → ReadsLoop call request.file (Ok l) → AreFree l → IsExact r → IsRefusedBranch l b r
      → EndsOrWide call (branch_answer l.names b r)
  pub unformed : (l : Program (Expr ℕ)) → ReadsLoop call request.file (Ok l) → AreFree l
      → ¬ (AllHaveForms l) → EndsAtFault call.status
  -- a fault that says `limit: PLACE`: the maps are free, each branch has a closed form, and the
  -- entries lead to the task at this place, which is too long; and where the analysis comes to such
  -- a task, so it is, or a number doesn't fit, or the budget is exhausted
  pub limit_told : call.status ≡ status.Fault → Wrote call.sink (λ said. IfLimit said (λ place.
      IfTold call.files.before request.file (λ text. IsToldLong text call.meter.after place)))
  pub task_limit : (l : Program (Expr ℕ)) → ReadsLoop call request.file (Ok l) → AreFree l
      → AllHaveForms l → ComesToLong l → EndsLong call l
  -- where none comes, a basis, but for numbers that don't fit and an exhausted budget
  pub found : (l : Program (Expr ℕ)) → ReadsLoop call request.file (Ok l) → AreFree l → AllSplit l
      → IsNeverLong l → EndsFound call.status
  -- the budget isn't exhausted where some finished journal has at most as many units
  pub enough : (l : Program (Expr ℕ)) → ReadsLoop call request.file (Ok l)
      → IsWithinBudget l request.budget → call.status ≢ status.Budget
  -- and so, where nothing refuses, there is a basis
  pub completes : (l : Program (Expr ℕ)) → ReadsLoop call request.file (Ok l) → IsNeverRefused l
      → IsWithinBudget l request.budget → (call.status ≡ status.Yes) ⊎ IsExcused call.status
  -- a file that is too long
  pub long : IsLonger call.files.before (loop_at request.file) → EndsTooLong call request.file
