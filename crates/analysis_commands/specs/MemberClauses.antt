-- What `member` promises.
--   ReadsEquation call request l r     the bytes of LOOP are told, they are the loop l, and this is
--                                    what the equation says: an equation, or a first fault
--   AsksOf call request l e            so, it is e, and no operation by which its polynomial is
--                                    formed passes a limit
--   AsksNothing text equation a      a tells the first fault of LOOP or of EQUATION, or an
--                                    operation of its polynomial that can't be done
--   Refuses call request a             so, and the meter is as it was; or a tells why the analysis
--                                    and the division that left it so have no answer
--   EndsDecided s l e                it ends with yes, and the equation holds at the end of every
--                                    run, or with no, and it doesn't
--   EndsAsked s l e                  so, or with a number that doesn't fit, or with an exhausted
--                                    budget, or it is excused
--   limit_of_loop at, limit_of_equation at     what is answered to an operation at this place that
--                                           passes a limit: of the loop's maps, of the equation's
--                                           polynomial
--   Decides request call               the clauses
use Rattle.std.specs.Prelude.{◌≡◌, ◌≢◌, ◌⊎◌, ◌≤◌, ℕ, List, length, Result, Ok, Err}
use Rattle.algebra.specs.Fraction.{Fraction}
use Rattle.polynomials.specs.Terms.{Terms}
use Rattle.machines.specs.Division as division
use Rattle.machines.specs.Journal.{Entry, units_of}
use Rattle.poly_text.specs.Reasons.{Fault, limit}
use Rattle.loop_model.specs.Operations.{IsLimit}
use Rattle.loops.specs.Program.{Expr, Program}
use Rattle.loop_model.specs.Maps.{maps_operations, AreFree}
use Rattle.rounds.specs.Journal.{IsAnswered}
use Rattle.closed_forms.specs.Refusal.{Refusal}
use Rattle.invariant_fix.specs.Refusals.{AllHaveForms, IsRefusedBranch}
use Rattle.io_edge.specs.declared.answer.Status.{Status}
use Rattle.io_edge.specs.declared.answer.Status.TheVariants as status
use Rattle.io_edge.specs.Texts.{Answer}
use Rattle.io_edge.specs.Outcome.{Call}
use Rattle.io_edge.specs.Clauses.{Wrote, TellsWhy, IfTold, IsExcused, Ends, EndsOrWide, EndsAtFault, EndsTooLong, IsLonger}
use Rattle.command_parts.specs.FaultTexts.{loop_refusal}
use Rattle.command_parts.specs.LoopReading.{loop_at, IsLoopFault, ReadsLoop}
use Rattle.analysis_commands.specs.RefusalTexts.{branch_answer}
use Rattle.analysis_commands.specs.Completeness.{AllSplit}
use Rattle.analysis_commands.specs.Causes.{IsNeverLong, IsNeverRefused, IsExact}
use Rattle.analysis_commands.specs.LongTasks.{IfLimit, IsToldLong, ComesToLong, EndsLong}
use Rattle.command_parts.specs.Equations.{equation_in, operations_of, polynomial_of, Holds, FormsFreely}
use Rattle.analysis_commands.specs.MemberHeadline.{ShowsYes, ShowsNo}
use Rattle.analysis_commands.specs.MemberCauses.{IsEquationFault, IsEquationStop, IsUndecided, HasAffirmed, HasDenied, IsExhaustedAsking, IsAsked, NeverStops, NeverPast}
use Rattle.analysis_commands.specs.MemberArguments.{Request}
use Rattle.command_parts.specs.EquationReading.{equation_refusal}

abbrev pub AsksNothing : List ℕ → List ℕ → Answer → Type 0
AsksNothing text equation a =
    IsLoopFault text a ⊎ (IsEquationFault text equation a ⊎ IsEquationStop text equation a)

module _ (call : Call) (request : Request) where
  pub record ReadsEquation (l : Program (Expr ℕ)) (reading : Result (Expr ℕ) Fault) : Type 0 where
    pub loop : ReadsLoop call request.file (Ok l)
    pub reads : equation_in l.names request.equation ≡ reading

  pub record AsksOf (l : Program (Expr ℕ)) (e : Expr ℕ) : Type 0 where
    pub reads : ReadsEquation l (Ok e)
    pub free : FormsFreely l e

  abbrev pub Refuses : Answer → Type 0
  Refuses a = IfTold call.files.before request.file (λ text.
      (AsksNothing text request.equation a × (call.meter.after ≡ call.meter.before))
      ⊎ IsUndecided text request.equation request.budget call.meter.after a)

abbrev pub EndsDecided : Status → Program (Expr ℕ) → Expr ℕ → Type 0
EndsDecided s l e = ((s ≡ status.Yes) × Holds l e) ⊎ ((s ≡ status.No) × ¬ (Holds l e))

abbrev pub EndsAsked : Status → Program (Expr ℕ) → Expr ℕ → Type 0
EndsAsked s l e = EndsDecided s l e ⊎ ((s ≡ status.Wide) ⊎ ((s ≡ status.Budget) ⊎ IsExcused s))

abbrev pub limit_of_loop : ℕ → Answer
limit_of_loop at = loop_refusal (record { reason = limit; at = at })

abbrev pub limit_of_equation : ℕ → Answer
limit_of_equation at = equation_refusal (record { reason = limit; at = at })

pub record Decides (request : Request) (call : Call) : Type 0 where
  -- yes: the equation holds at the end of every run, and the text has cofactors with which the
  -- reduced basis of the loop's invariants makes its polynomial; the entries of the meter are those
  -- of the finished analysis and of the division, and nothing is left
  pub holds : call.status ≡ status.Yes → IfTold call.files.before request.file
      (λ text. Wrote call.sink (ShowsYes text request.equation))
  pub answered : call.status ≡ status.Yes → IfTold call.files.before request.file
      (λ text. HasAffirmed text request.equation request.budget call.meter.after)
  -- no: the equation doesn't hold at the end of some run; the same of the meter, and something is
  -- left
  pub refuted : call.status ≡ status.No → IfTold call.files.before request.file
      (λ text. Wrote call.sink (ShowsNo text request.equation))
  pub denied : call.status ≡ status.No → IfTold call.files.before request.file
      (λ text. HasDenied text request.equation request.budget call.meter.after)
  -- a fault, or a number that doesn't fit: the text tells the first fault of LOOP or of EQUATION,
  -- or an operation of its polynomial, and the meter is as it was; or why the analysis or the
  -- division has no answer
  pub why : TellsWhy call (Refuses call request)
  -- an exhausted budget: as many entries are units as the budget, and what comes next is a unit
  pub exhausted : call.status ≡ status.Budget → IfTold call.files.before request.file
      (λ text.
      Wrote call.sink (IsExhaustedAsking text request.equation request.budget call.meter.after))
  -- the meter is opened with the budget where no operation of the polynomial passes a limit, and
  -- the entries follow the analysis and the division; where one does, it is as it was
  pub journal : (call.meter.after ≡ call.meter.before)
      ⊎ IfTold call.files.before request.file
      (λ text. IsAsked text request.equation request.budget call.meter.after)
  pub kept : (l : Program (Expr ℕ)) (e : Expr ℕ) (at : ℕ)
      → ReadsEquation call request l (Ok e) → IsLimit (length l.names) (operations_of l e) at
      → call.meter.after ≡ call.meter.before
  -- where the bytes are told, but for want of memory and faults of the outside: the first fault of
  -- LOOP, or of EQUATION; the first operation of its polynomial that passes a limit; then the first
  -- of the loop's maps; then the first branch that has no closed form
  pub loop_fault : (fault : Fault) → ReadsLoop call request.file (Err fault)
      → Ends call (loop_refusal fault)
  pub equation_fault : (l : Program (Expr ℕ)) (fault : Fault)
      → ReadsEquation call request l (Err fault) → Ends call (equation_refusal fault)
  pub equation_limit : (l : Program (Expr ℕ)) (e : Expr ℕ) (at : ℕ)
      → ReadsEquation call request l (Ok e) → IsLimit (length l.names) (operations_of l e) at
      → EndsOrWide call (limit_of_equation at)
  pub limit_passed : (l : Program (Expr ℕ)) (e : Expr ℕ) (at : ℕ) → AsksOf call request l e
      → IsLimit (length l.names) (maps_operations l) at → EndsOrWide call (limit_of_loop at)
  pub branch_refused : (l : Program (Expr ℕ)) (e : Expr ℕ) (b : ℕ) (r : Refusal)
      → AsksOf call request l e → AreFree l → IsExact r → IsRefusedBranch l b r
      → EndsOrWide call (branch_answer l.names b r)
  pub unformed : (l : Program (Expr ℕ)) (e : Expr ℕ) → AsksOf call request l e → AreFree l
      → ¬ (AllHaveForms l) → EndsAtFault call.status
  -- a fault that says `limit: PLACE`: the maps of LOOP are free, each branch has a closed form, and
  -- the entries lead to the task of the analysis at this place, which is too long; and where the
  -- analysis comes to such a task, so it is, or a number doesn't fit, or the budget is exhausted
  pub limit_told : call.status ≡ status.Fault → Wrote call.sink (λ said. IfLimit said (λ place.
      IfTold call.files.before request.file (λ text. IsToldLong text call.meter.after place)))
  pub task_limit : (l : Program (Expr ℕ)) (e : Expr ℕ) → AsksOf call request l e → AreFree l
      → AllHaveForms l → ComesToLong l → EndsLong call l
  -- where none comes: yes exactly where the equation holds at the end of every run, no exactly
  -- where it doesn't, but for numbers that don't fit and an exhausted budget; which isn't exhausted
  -- where
  -- some answered journal has at most as many units; and yes or no, where nothing refuses
  pub decided : (l : Program (Expr ℕ)) (e : Expr ℕ) → AsksOf call request l e → AreFree l
      → AllSplit l → IsNeverLong l → EndsAsked call.status l e
  pub enough : (l : Program (Expr ℕ)) (e : Expr ℕ) (es : List Entry) (rounds : ℕ)
      (gs : List (Terms Fraction)) (last : division.State Fraction) → AsksOf call request l e
      → IsAnswered l (polynomial_of l e) es rounds gs last → units_of es ≤ request.budget
      → call.status ≢ status.Budget
  pub completes : (l : Program (Expr ℕ)) (e : Expr ℕ) (es : List Entry) (rounds : ℕ)
      (gs : List (Terms Fraction)) (last : division.State Fraction)
      → ReadsEquation call request l (Ok e) → NeverStops l e → IsNeverRefused l
      → NeverPast l (polynomial_of l e) → IsAnswered l (polynomial_of l e) es rounds gs last
      → units_of es ≤ request.budget → EndsDecided call.status l e ⊎ IsExcused call.status
  pub long : IsLonger call.files.before (loop_at request.file) → EndsTooLong call request.file
