-- What `counter` promises.
--   IsEquationFault text equation a   the bytes are a loop, and a tells the first fault of the
--     equation
--   StopsSearch text equation n a     they are a loop and an equation, and a tells by what its
--                         polynomial can't be formed, or by what the search stops
--   Refuses call request a      a tells the first fault of LOOP or of EQUATION, or what stopped
--   ReadsEquation call request l r    the bytes are told and the loop l, and r is what EQUATION
--     says
--   IsWithin l p w n      no image of a word up to w passes a limit, they don't cost too much, and w
--                         has at most n letters
--   AreWithin l p n       no image of a word of at most n letters passes a limit, and they don't cost
--                         too much
--   IsWideSeeking l e n   an operation of the equation's polynomial, of the maps, or on the way to
--     a
--                         word that is reached may not fit
--   EndsSeeking s l e n   no, and a word of at most n letters counters; yes, and none does; a
--                         fault, and a word that is reached passes a limit, or up to it words cost
--                         too much; wide by such a cause; or excused
--   Counters request call       the clauses
use Rattle.std.specs.Prelude.{◌≡◌, ◌≢◌, ◌⊎◌, ℕ, ◌≤◌, List, length, Ok, Err, Result}
use Rattle.std.specs.List.{All}
use Rattle.algebra.specs.Fraction.{Fraction}
use Rattle.polynomials.specs.Terms.{Terms}
use Rattle.loops.specs.Program.{Expr, Program}
use Rattle.rounds.specs.Word.{IsLetter}
use Rattle.poly_text.specs.Reasons.{Fault, limit}
use Rattle.loop_model.specs.Operations.{IsLimit, IsWide}
use Rattle.loop_model.specs.Maps.{maps_operations, AreFree}
use Rattle.loop_text.specs.LoopReader.{loop_of}
use Rattle.corollaries.specs.Word.{IsEarlier}
use Rattle.corollaries.specs.Counter.{IsFirstWord, NoneCounters}
use Rattle.counter_run.specs.Images.{IsFreeWord}
use Rattle.counter_run.specs.Costs.{IsTooCostly}
use Rattle.counter_run.specs.Causes.{IsReached, IsLimitWord, IsCostlyWord}
use Rattle.counter_run.specs.Answers.{IsWideCause, StopsAtWord}
use Rattle.io_edge.specs.declared.answer.Status.{Status}
use Rattle.io_edge.specs.declared.answer.Status.TheVariants as status
use Rattle.io_edge.specs.Texts.{Answer}
use Rattle.io_edge.specs.Outcome.{Call}
use Rattle.io_edge.specs.Clauses.{Wrote, TellsWhy, IfTold, IsExcused, Ends, EndsOrWide, EndsTooLong, IsLonger}
use Rattle.command_parts.specs.FaultTexts.{loop_refusal}
use Rattle.command_parts.specs.LoopReading.{loop_at, IsLoopFault, ReadsLoop}
use Rattle.command_parts.specs.Equations.{equation_in, operations_of, polynomial_of, FormsFreely}
use Rattle.command_parts.specs.EquationReading.{equation_refusal, IsUnformed}
use Rattle.replay_commands.specs.CounterSeeking.{TellsStop}
use Rattle.replay_commands.specs.CounterTexts.{none_answer, limit_answer, cost_answer}
use Rattle.replay_commands.specs.CounterArguments.{Request}
use Rattle.replay_commands.specs.CounterHeadline.{IsQuestion, ShowsCounterRun, ShowsNoneUpTo}

pub record IsEquationFault (text equation : List ℕ) (a : Answer) : Type 0 where
  pub loop : Program (Expr ℕ)
  pub is_loop : loop_of text ≡ Ok loop
  pub fault : Fault
  pub is : equation_in loop.names equation ≡ Err fault
  pub says : a ≡ equation_refusal fault

pub record StopsSearch (text equation : List ℕ) (n : ℕ) (a : Answer) : Type 0 where
  pub loop : Program (Expr ℕ)
  pub difference : Expr ℕ
  pub question : IsQuestion text equation loop difference
  pub stops : IsUnformed loop difference a
      ⊎ (FormsFreely loop difference × TellsStop loop (polynomial_of loop difference) n a)

abbrev pub Refuses : Call → Request → Answer → Type 0
Refuses call request a = IfTold call.files.before request.file (λ text.
    IsLoopFault text a
    ⊎ (IsEquationFault text request.equation a
    ⊎ StopsSearch text request.equation request.most a))

pub record ReadsEquation (call : Call) (request : Request) (l : Program (Expr ℕ))
    (reading : Result (Expr ℕ) Fault) : Type 0 where
  pub loop : ReadsLoop call request.file (Ok l)
  pub reads : equation_in l.names request.equation ≡ reading

module _ (l : Program (Expr ℕ)) (p : Terms Fraction) where
  pub record IsWithin (w : List ℕ) (n : ℕ) : Type 0 where
    pub short : length w ≤ n
    pub free : (v : List ℕ) → All (IsLetter l) v → (v ≡ w) ⊎ IsEarlier v w → IsFreeWord l p v
    pub little : (v : List ℕ) → (v ≡ w) ⊎ IsEarlier v w → ¬ (IsTooCostly l p n v)

  pub record AreWithin (n : ℕ) : Type 0 where
    pub free : (v : List ℕ) → All (IsLetter l) v → length v ≤ n → IsFreeWord l p v
    pub little : (v : List ℕ) → length v ≤ n → ¬ (IsTooCostly l p n v)

  abbrev pub HasWord : ℕ → Type 0
  HasWord n = (w : List ℕ) × IsFirstWord l p w × (length w ≤ n)

  abbrev pub HasLimitWord : ℕ → Type 0
  HasLimitWord n = (w : List ℕ) × StopsAtWord l p n w (IsLimitWord l p w)

  abbrev pub HasCostlyWord : ℕ → Type 0
  HasCostlyWord n = (w : List ℕ) × StopsAtWord l p n w (IsCostlyWord l p n w)

  abbrev pub HasWideWord : ℕ → Type 0
  HasWideWord n = (w : List ℕ) × StopsAtWord l p n w (IsWideCause l p n w)

abbrev pub IsWideSeeking : Program (Expr ℕ) → Expr ℕ → ℕ → Type 0
IsWideSeeking l e n =
    ((at : ℕ) × IsWide (length l.names) (operations_of l e) at)
    ⊎ (((at : ℕ) × IsWide (length l.names) (maps_operations l) at)
    ⊎ HasWideWord l (polynomial_of l e) n)

abbrev pub EndsSeeking : Status → Program (Expr ℕ) → Expr ℕ → ℕ → Type 0
EndsSeeking s l e n =
    ((s ≡ status.No) × HasWord l (polynomial_of l e) n)
    ⊎ (((s ≡ status.Yes) × NoneCounters l (polynomial_of l e) n)
    ⊎ (((s ≡ status.Fault) × (HasLimitWord l (polynomial_of l e) n
    ⊎ HasCostlyWord l (polynomial_of l e) n))
    ⊎ (((s ≡ status.Wide) × IsWideSeeking l e n) ⊎ IsExcused s)))

pub record Counters (request : Request) (call : Call) : Type 0 where
  -- no: the text is the first run, by its word and then by its start, at whose end the equation
  -- doesn't hold
  pub countered : call.status ≡ status.No
      → IfTold call.files.before request.file
      (λ text. Wrote call.sink (ShowsCounterRun text request.equation request.most))
  -- yes: the equation holds after each word up to the length
  pub none_up_to : call.status ≡ status.Yes
      → IfTold call.files.before request.file
      (λ text. Wrote call.sink (ShowsNoneUpTo text request.equation request.most))
  -- a fault, or a number that doesn't fit: the text tells the first fault of LOOP or of EQUATION,
  -- the
  -- first operation that forms the equation's polynomial or a map of the loop and can't be done, or
  -- the word at which the search stopped
  pub why : TellsWhy call (Refuses call request)
  -- never an exhausted budget; and the meter is left alone
  pub exhausted : call.status ≢ status.Budget
  pub journal : call.meter.after ≡ call.meter.before
  -- where the bytes are told, but for want of memory and faults of the outside: the first fault;
  -- the
  -- first operation of the equation's polynomial, and then of the maps, that passes a limit
  pub loop_fault : (fault : Fault) → ReadsLoop call request.file (Err fault)
      → Ends call (loop_refusal fault)
  pub equation_fault : (l : Program (Expr ℕ)) (fault : Fault)
      → ReadsEquation call request l (Err fault) → Ends call (equation_refusal fault)
  pub equation_limit : (l : Program (Expr ℕ)) (e : Expr ℕ) (at : ℕ)
      → ReadsEquation call request l (Ok e) → IsLimit (length l.names) (operations_of l e) at
      → EndsOrWide call (equation_refusal (record { reason = limit; at = at }))
  pub map_limit : (l : Program (Expr ℕ)) (e : Expr ℕ) (at : ℕ)
      → ReadsEquation call request l (Ok e) → FormsFreely l e
      → IsLimit (length l.names) (maps_operations l) at
      → EndsOrWide call (loop_refusal (record { reason = limit; at = at }))
  -- where none passes one: no, where a word counters, no image up to it passes a limit, and the
  -- words
  -- up to it don't cost too much; that there is none, where none counters, none passes one, and all
  -- don't cost too much; and the first word whose image passes one, or up to which words cost too
  -- much, where it is reached; or a number that doesn't fit
  pub first : (l : Program (Expr ℕ)) (e : Expr ℕ) (w : List ℕ)
      → ReadsEquation call request l (Ok e) → FormsFreely l e → AreFree l
      → IsFirstWord l (polynomial_of l e) w → IsWithin l (polynomial_of l e) w request.most
      → (call.status ≡ status.No) ⊎ ((call.status ≡ status.Wide) ⊎ IsExcused call.status)
  pub none : (l : Program (Expr ℕ)) (e : Expr ℕ)
      → ReadsEquation call request l (Ok e) → FormsFreely l e → AreFree l
      → NoneCounters l (polynomial_of l e) request.most
      → AreWithin l (polynomial_of l e) request.most
      → EndsOrWide call (none_answer request.most)
  pub word_limit : (l : Program (Expr ℕ)) (e : Expr ℕ) (w : List ℕ)
      → ReadsEquation call request l (Ok e) → FormsFreely l e → AreFree l
      → IsReached l (polynomial_of l e) request.most w → IsLimitWord l (polynomial_of l e) w
      → EndsOrWide call (limit_answer w)
  pub cost_limit : (l : Program (Expr ℕ)) (e : Expr ℕ) (w : List ℕ)
      → ReadsEquation call request l (Ok e) → FormsFreely l e → AreFree l
      → IsReached l (polynomial_of l e) request.most w
      → IsCostlyWord l (polynomial_of l e) request.most w → EndsOrWide call (cost_answer w)
  -- so one of these, each by its cause, where the equation and the maps pass no limit
  pub completes : (l : Program (Expr ℕ)) (e : Expr ℕ)
      → ReadsEquation call request l (Ok e) → FormsFreely l e → AreFree l
      → EndsSeeking call.status l e request.most
  pub long : IsLonger call.files.before (loop_at request.file) → EndsTooLong call request.file
