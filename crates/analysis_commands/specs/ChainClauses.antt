-- What `chain` promises.
--   Refuses call request a     a tells the first fault of CHAIN, or why the analysis of a loop that left the meter so has no basis
--   FindsEach request call     the clauses
use Rattle.std.specs.Prelude.{◌≡◌, ◌≢◌, ◌⊎◌, ◌≤◌, ℕ, length, Ok, Err}
use Rattle.poly_text.specs.Reasons.{Fault, limit}
use Rattle.loop_model.specs.Operations.{IsFree, IsLimit}
use Rattle.loops.specs.Program.{Expr}
use Rattle.loops.specs.Chain.{Chain, loop_at}
use Rattle.invariant_fix.specs.Bases.{Reaches, operations_at}
use Rattle.closed_forms.specs.Refusal.{Refusal}
use Rattle.invariant_fix.specs.Refusals.{AllHaveForms, IsRefusedBranch}
use Rattle.io_edge.specs.declared.answer.Status.TheVariants as status
use Rattle.io_edge.specs.Texts.{Answer}
use Rattle.io_edge.specs.Outcome.{Call}
use Rattle.io_edge.specs.Clauses.{Wrote, TellsWhy, IfTold, IsExcused, Ends, EndsOrWide, EndsAtFault, EndsTooLong, IsLonger}
use Rattle.command_parts.specs.FaultTexts.{loop_refusal}
use Rattle.command_parts.specs.LoopReading.{loop_at as chain_at}
use Rattle.analysis_commands.specs.RefusalTexts.{branch_answer}
use Rattle.analysis_commands.specs.Completeness.{AllSplit, EndsFound}
use Rattle.analysis_commands.specs.Causes.{IsExact}
use Rattle.analysis_commands.specs.ChainTexts.{in_loop}
use Rattle.command_parts.specs.ChainReading.{IsChainFault, ReadsChain}
use Rattle.analysis_commands.specs.ChainHeadline.{ShowsChain}
use Rattle.analysis_commands.specs.ChainCauses.{HasFinished, IsExhausted, IsAnalysed, IsUnanalysed, IfLimitIn, IsToldLong, AreFormedBefore, IsNeverLongAt, IsWithinBudget, IsNeverRefused}
use Rattle.command_parts.specs.FileRequests.{FileRequest}

abbrev pub Refuses : Call → FileRequest → Answer → Type 0
Refuses call request a = IfTold call.files.before request.file
    (λ text. IsChainFault text a ⊎ IsUnanalysed text request.budget call.meter.after a)

pub record FindsEach (request : FileRequest) (call : Call) : Type 0 where
  -- yes: for each loop the text has the reduced basis of the invariants of the chain up to it; the
  -- entries of the meter are those of the finished analysis of the last loop
  pub bases : call.status ≡ status.Yes → IfTold call.files.before request.file
      (λ text. Wrote call.sink (ShowsChain text))
  pub finished : call.status ≡ status.Yes → IfTold call.files.before request.file
      (λ text. HasFinished text request.budget call.meter.after)
  -- a fault, or a number that doesn't fit: the text tells the first fault of CHAIN, or why the
  -- analysis of a loop has no basis, said of this loop
  pub why : TellsWhy call (Refuses call request)
  -- an exhausted budget: of a loop, or of the code before it, as many entries are units as are
  -- left, and
  -- what comes next is one
  pub exhausted : call.status ≡ status.Budget → IfTold call.files.before request.file
      (λ text. Wrote call.sink (IsExhausted text request.budget call.meter.after))
  -- never no
  pub no : call.status ≢ status.No
  -- the meter is opened with what is left of the budget, and the entries follow the analysis of a
  -- loop; or with the budget for the code before a loop, and they are a beginning of its
  -- elimination
  pub journal : (call.meter.after ≡ call.meter.before)
      ⊎ IfTold call.files.before request.file
      (λ text. IsAnalysed text request.budget call.meter.after)
  -- where the bytes are told, but for want of memory and faults of the outside: the first fault
  pub chain_fault : (fault : Fault) → ReadsChain call request.file (Err fault)
      → Ends call (loop_refusal fault)
  -- behind loops that are formed and finished within the budget: the first operation of the code
  -- before a loop, or then of its maps, that passes a limit
  pub limit_passed : (c : Chain (Expr ℕ)) (j at : ℕ) → ReadsChain call request.file (Ok c)
      → j ≤ length c.further → Reaches c request.budget j → AreFormedBefore c request.budget j
      → IsLimit (length c.first.names) (operations_at c j) at
      → EndsOrWide call (in_loop j (loop_refusal (record { reason = limit; at = at })))
  -- the first branch of a loop that has no closed form; a fault where one has none
  pub branch_refused : (c : Chain (Expr ℕ)) (j b : ℕ) (r : Refusal)
      → ReadsChain call request.file (Ok c) → j ≤ length c.further
      → Reaches c request.budget j → AreFormedBefore c request.budget j
      → IsFree (length c.first.names) (operations_at c j) → IsExact r
      → IsRefusedBranch (loop_at c j) b r
      → EndsOrWide call (in_loop j (branch_answer c.first.names b r))
  pub unformed : (c : Chain (Expr ℕ)) (j : ℕ) → ReadsChain call request.file (Ok c)
      → j ≤ length c.further → Reaches c request.budget j → AreFormedBefore c request.budget j
      → ¬ (AllHaveForms (loop_at c j)) → EndsAtFault call.status
  -- a fault that says `limit: PLACE` of a loop: no operation of its code or maps passes a limit,
  -- each branch has a closed form, and the entries lead from what is given to it to the task at this
  -- place, which is too long
  pub limit_told : call.status ≡ status.Fault → Wrote call.sink (λ said.
      IfLimitIn said (λ j place. IfTold call.files.before request.file
      (λ text. IsToldLong text request.budget call.meter.after j place)))
  -- where no loop is refused so, the bases, but for numbers that don't fit and an exhausted budget
  pub found : (c : Chain (Expr ℕ)) → ReadsChain call request.file (Ok c)
      → ((j : ℕ) → j ≤ length c.further
      → IsFree (length c.first.names) (operations_at c j) × AllSplit (loop_at c j)
      × IsNeverLongAt c request.budget j)
      → EndsFound call.status
  -- the budget isn't exhausted where each loop has a finished journal within it
  pub enough : (c : Chain (Expr ℕ)) → ReadsChain call request.file (Ok c)
      → IsWithinBudget c request.budget → call.status ≢ status.Budget
  -- and so, where nothing refuses, there are the bases
  pub completes : (c : Chain (Expr ℕ)) → ReadsChain call request.file (Ok c)
      → IsNeverRefused c request.budget → IsWithinBudget c request.budget
      → (call.status ≡ status.Yes) ⊎ IsExcused call.status
  -- a file that is too long
  pub long : IsLonger call.files.before (chain_at request.file) → EndsTooLong call request.file
