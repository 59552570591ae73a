-- What `full` promises.
--   Refuses call request a     a tells the first fault of LOOP, or why the analysis that left the meter so has no basis, or the first branch that begins late
--   RefusesOrStops call request a     a tells the first fault of LOOP, or why the analysis that left the meter so has no basis, or why the trace behind one that has ended was refused
--   FindsFull request call     the clauses
use Rattle.std.specs.Prelude.{◌≡◌, ◌≢◌, ◌⊎◌, ℕ, length, Ok, Err}
use Rattle.poly_text.specs.Reasons.{Fault, limit}
use Rattle.loop_model.specs.Operations.{IsLimit}
use Rattle.loops.specs.Program.{Expr, Program}
use Rattle.loop_model.specs.Maps.{maps_operations, AreFree}
use Rattle.closed_forms.specs.Refusal.{Refusal}
use Rattle.invariant_fix.specs.Refusals.{AllHaveForms, IsRefusedBranch}
use Rattle.io_edge.specs.declared.answer.Status.TheVariants as status
use Rattle.io_edge.specs.Texts.{Answer, with_text}
use Rattle.io_edge.specs.Outcome.{Call}
use Rattle.io_edge.specs.Clauses.{Wrote, IfTold, IsExcused, Ends, EndsOrWide, EndsAtFault, EndsTooLong, IsLonger}
use Rattle.command_parts.specs.FaultTexts.{loop_refusal}
use Rattle.command_parts.specs.LoopReading.{loop_at, IsLoopFault, ReadsLoop}
use Rattle.analysis_commands.specs.RefusalTexts.{branch_answer}
use Rattle.analysis_commands.specs.Completeness.{AllSplit, EndsFound}
use Rattle.analysis_commands.specs.Causes.{IsUnanalysed, IsNeverLong, IsExact}
use Rattle.analysis_commands.specs.LongTasks.{IfLimit, IsToldLong, ComesToLong, EndsLong}
use Rattle.command_parts.specs.FileRequests.{FileRequest}
use Rattle.full_trace.specs.Late.{AllBeginAtZero, IsFirstLate}
use Rattle.certificate_commands.specs.FullTexts.{late_answer}
use Rattle.certificate_commands.specs.FullHeadline.{ShowsFull}
use Rattle.certificate_commands.specs.FullCauses.{HasFinished, IsCertificateOf, IsExhausted, IsToldLate, HasBegun, IsRefusedTrace, IsNeverRefused, IsWithinBudget}

abbrev pub Refuses : Call → FileRequest → Answer → Type 0
Refuses call request a = IfTold call.files.before request.file
    (λ text. IsLoopFault text a ⊎ (IsUnanalysed text request.budget call.meter.after a
    ⊎ IsToldLate text request.budget call.meter.after a))

abbrev pub RefusesOrStops : Call → FileRequest → Answer → Type 0
RefusesOrStops call request a = IfTold call.files.before request.file
    (λ text. IsLoopFault text a ⊎ (IsUnanalysed text request.budget call.meter.after a
    ⊎ IsRefusedTrace text request.budget call.meter.after a))

pub record FindsFull (request : FileRequest) (call : Call) : Type 0 where
  -- yes: the text is a full certificate of the loop, all parts of which hold, and its polynomials
  -- are the reduced basis of the loop's invariants; the entries of the meter are those of the trace
  pub certified : call.status ≡ status.Yes → IfTold call.files.before request.file
      (λ text. Wrote call.sink (ShowsFull text))
  pub finished : call.status ≡ status.Yes → IfTold call.files.before request.file
      (λ text. HasFinished text request.budget call.meter.after)
  -- and the text is what is made of both, with the cofactors of the divisions that closed the basis
  pub made : call.status ≡ status.Yes → IfTold call.files.before request.file
      (λ text. Wrote call.sink (IsCertificateOf text request.budget call.meter.after))
  -- a fault: the text tells the first fault of LOOP, or why the analysis has no basis, or the
  -- first branch that begins late; a number that doesn't fit: the first fault, or why there is no
  -- basis, or no trace behind an analysis that has ended
  pub fault : call.status ≡ status.Fault
      → Wrote call.sink (λ said. Refuses call request (with_text status.Fault said))
  pub wide : call.status ≡ status.Wide
      → Wrote call.sink (λ said. RefusesOrStops call request (with_text status.Wide said))
  -- an exhausted budget: as many entries are units as the budget, and what comes next is a unit
  pub exhausted : call.status ≡ status.Budget → IfTold call.files.before request.file
      (λ text. Wrote call.sink (IsExhausted text request.budget call.meter.after))
  -- never no
  pub no : call.status ≢ status.No
  -- the meter is opened with the budget, and the entries follow the analysis or the trace
  pub journal : (call.meter.after ≡ call.meter.before)
      ⊎ IfTold call.files.before request.file
      (λ text. HasBegun text request.budget call.meter.after)
  -- where the bytes are told, but for want of memory and faults of the outside: the first fault
  pub loop_fault : (fault : Fault) → ReadsLoop call request.file (Err fault)
      → Ends call (loop_refusal fault)
  -- the first operation of the maps that passes a limit
  pub limit_passed : (l : Program (Expr ℕ)) (at : ℕ) → ReadsLoop call request.file (Ok l)
      → IsLimit (length l.names) (maps_operations l) at
      → EndsOrWide call (loop_refusal (record { reason = limit; at = at }))
  -- the first branch that has no closed form
  pub branch_refused : (l : Program (Expr ℕ)) (b : ℕ) (r : Refusal)
      → ReadsLoop call request.file (Ok l) → AreFree l → IsExact r → IsRefusedBranch l b r
      → EndsOrWide call (branch_answer l.names b r)
  pub unformed : (l : Program (Expr ℕ)) → ReadsLoop call request.file (Ok l) → AreFree l
      → ¬ (AllHaveForms l) → EndsAtFault call.status
  -- where all have one, the first that begins late
  pub begins_late : (l : Program (Expr ℕ)) (b : ℕ) → ReadsLoop call request.file (Ok l)
      → AreFree l → AllHaveForms l → IsFirstLate l b → EndsOrWide call (late_answer b)
  -- a fault that says `limit: PLACE`: the maps are free, each branch has a closed form, and the
  -- entries lead to the task of the analysis at this place, which is too long; and where all begin
  -- at 0 and the analysis comes to such a task, so it is, or a number doesn't fit, or the budget is
  -- exhausted
  pub limit_told : call.status ≡ status.Fault → Wrote call.sink (λ said. IfLimit said (λ place.
      IfTold call.files.before request.file (λ text. IsToldLong text call.meter.after place)))
  pub task_limit : (l : Program (Expr ℕ)) → ReadsLoop call request.file (Ok l) → AreFree l
      → AllHaveForms l → AllBeginAtZero l → ComesToLong l → EndsLong call l
  -- where none comes, a certificate, but for numbers that don't fit and an exhausted budget
  pub found : (l : Program (Expr ℕ)) → ReadsLoop call request.file (Ok l) → AreFree l → AllSplit l
      → AllBeginAtZero l → IsNeverLong l → EndsFound call.status
  -- the budget isn't exhausted where a finished journal and the trace have at most as many units
  pub enough : (l : Program (Expr ℕ)) → ReadsLoop call request.file (Ok l)
      → IsWithinBudget l request.budget → call.status ≢ status.Budget
  -- and so, where nothing refuses, there is a certificate
  pub completes : (l : Program (Expr ℕ)) → ReadsLoop call request.file (Ok l)
      → (within : IsWithinBudget l request.budget) → IsNeverRefused l within.analysis.rounds
      → (call.status ≡ status.Yes) ⊎ IsExcused call.status
  -- a file that is too long
  pub long : IsLonger call.files.before (loop_at request.file) → EndsTooLong call request.file
