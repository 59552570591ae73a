-- What `decide` and `prove` promise.
--   HasEnded evidence text equation n m     the bytes are a loop and an equation, and the journal m, with this budget, is that of its closing, and of the divisions behind it, which has ended with a list
--   HasRefuted text equation n m            so of its closing, which has ended with a word
--   StopsDeciding evidence text equation n before m a     they are, and a tells by what the equation's polynomial can't be formed, where m is before; or by what the closing that left m stops, or a division behind it
--   IsExhaustedDeciding evidence text equation n m said       they are, as many entries are units as the budget, what comes next is a unit, and the budget is said
--   IsAsked evidence text equation n m      they are, and the meter was opened for the closing
--   Refuses call request a            a tells the first fault of LOOP or of EQUATION, or what stopped
--   ReadsEquation call request l r    the bytes are told and the loop l, and r is what EQUATION says
--   HasLimit l p, HasWide evidence l e      some journal of the closing of p leads to a composition that passes a limit; an operation of the equation's polynomial or of the maps, or what a journal leads to, may not fit
--   EndsDecided s l e                 yes, and the equation holds at the end of every run; or no, and it doesn't
--   EndsAny evidence s l e            so; or a fault or a number that doesn't fit, by such a cause; or an exhausted budget; or excused
--   HasEnd evidence l p n             a journal with which the closing of p ends, or the divisions behind it, has at most n units
--   DecidesAny request call           the clauses
use Rattle.std.specs.Prelude.{◌≡◌, ◌≢◌, ◌⊎◌, ℕ, ◌≤◌, List, [], ◌∷◌, length, Ok, Err, Result}
use Rattle.algebra.specs.Fraction.{Fraction}
use Rattle.polynomials.specs.Terms.{Terms}
use Rattle.machines.specs.Journal.{Journal, Entry, units_of}
use Rattle.loops.specs.Program.{Expr, Program}
use Rattle.poly_text.specs.Reasons.{Fault, limit}
use Rattle.loop_model.specs.Operations.{IsLimit, IsWide}
use Rattle.loop_model.specs.Maps.{maps_operations, AreFree}
use Rattle.closing.specs.Causes.{IsLimitAt}
use Rattle.closing.specs.Progress.{StopsAt}
use Rattle.io_edge.specs.declared.answer.Status.{Status}
use Rattle.io_edge.specs.declared.answer.Status.TheVariants as status
use Rattle.io_edge.specs.Texts.{Answer}
use Rattle.io_edge.specs.Outcome.{Call}
use Rattle.io_edge.specs.Clauses.{Wrote, TellsWhy, IfTold, IsExcused, Ends, EndsOrWide, EndsTooLong, IsLonger}
use Rattle.command_parts.specs.FaultTexts.{loop_refusal, exhausted_answer}
use Rattle.command_parts.specs.LoopReading.{loop_at, IsLoopFault, ReadsLoop}
use Rattle.command_parts.specs.Equations.{equation_in, operations_of, polynomial_of, Holds, FormsFreely}
use Rattle.command_parts.specs.EquationReading.{equation_refusal, IsUnformed}
use Rattle.replay_commands.specs.CounterClauses.{IsEquationFault}
use Rattle.replay_commands.specs.CounterHeadline.{IsQuestion}
use Rattle.closing_commands.specs.declared.evidence.Evidence.{Evidence}
use Rattle.closing_commands.specs.Deciding.{HasClosed, HasCountered, IsOutOf, IsWideAtWord, IsWideTest, TellsStop, HasAsked}
use Rattle.closing_commands.specs.DecideHeadline.{Shows, ShowsCounter}
use Rattle.closing_commands.specs.DecideArguments.{Request}

-- ---- over the bytes of the file, and the meter
module _ (text equation : List ℕ) (n : ℕ) (m : Journal) where
  pub record HasRefuted : Type 0 where
    pub loop : Program (Expr ℕ)
    pub difference : Expr ℕ
    pub question : IsQuestion text equation loop difference
    pub limit : m.limit ≡ n
    pub word : List ℕ
    pub is : HasCountered loop (polynomial_of loop difference) m.entries word

  module _ (evidence : Evidence) where
    pub record HasEnded : Type 0 where
      pub loop : Program (Expr ℕ)
      pub difference : Expr ℕ
      pub question : IsQuestion text equation loop difference
      pub free : AreFree loop
      pub limit : m.limit ≡ n
      pub list : List (Terms Fraction)
      pub ends : HasClosed loop (polynomial_of loop difference) m.entries evidence list

    pub record StopsDeciding (before : Journal) (a : Answer) : Type 0 where
      pub loop : Program (Expr ℕ)
      pub difference : Expr ℕ
      pub question : IsQuestion text equation loop difference
      pub stops : (IsUnformed loop difference a × (m ≡ before))
          ⊎ (FormsFreely loop difference × (m.limit ≡ n)
          × TellsStop loop (polynomial_of loop difference) m evidence a)

    pub record IsExhaustedDeciding (said : List ℕ) : Type 0 where
      pub loop : Program (Expr ℕ)
      pub difference : Expr ℕ
      pub question : IsQuestion text equation loop difference
      pub limit : m.limit ≡ n
      pub maps : AreFree loop
      pub out : IsOutOf loop (polynomial_of loop difference) m.entries evidence n
      pub says : said ≡ (exhausted_answer n).text

    pub record IsAsked : Type 0 where
      pub loop : Program (Expr ℕ)
      pub difference : Expr ℕ
      pub question : IsQuestion text equation loop difference
      pub free : FormsFreely loop difference
      pub asked : HasAsked loop (polynomial_of loop difference) m evidence n

module _ (call : Call) (request : Request) where
  abbrev pub Refuses : Answer → Type 0
  Refuses a = IfTold call.files.before request.file (λ text.
      IsLoopFault text a
      ⊎ (IsEquationFault text request.equation a
      ⊎ StopsDeciding text request.equation request.budget call.meter.after request.evidence
      call.meter.before a))

  pub record ReadsEquation (l : Program (Expr ℕ)) (reading : Result (Expr ℕ) Fault) : Type 0 where
    pub loop : ReadsLoop call request.file (Ok l)
    pub reads : equation_in l.names request.equation ≡ reading

-- ---- what may come, whatever the call does
module _ (l : Program (Expr ℕ)) (p : Terms Fraction) where
  pub record HasLimit : Type 0 where
    pub entries : List Entry
    pub word : List ℕ
    pub is : StopsAt l (p ∷ []) word (IsLimitAt l (p ∷ []) entries)

  pub record HasWideWord : Type 0 where
    pub journal : Journal
    pub word : List ℕ
    pub is : IsWideAtWord l p journal word

  module _ (evidence : Evidence) where
    pub record HasWideTest : Type 0 where
      pub entries : List Entry
      pub branch : ℕ
      pub number : ℕ
      pub is : IsWideTest l p entries evidence branch number

    abbrev pub IsEnd : List Entry → Type 0
    IsEnd es =
        ((gs : List (Terms Fraction)) × HasClosed l p es evidence gs)
        ⊎ ((w : List ℕ) × HasCountered l p es w)

    pub record HasEnd (n : ℕ) : Type 0 where
      pub entries : List Entry
      pub ends : IsEnd entries
      pub few : units_of entries ≤ n

module _ (l : Program (Expr ℕ)) (e : Expr ℕ) where
  abbrev pub HasWide : Evidence → Type 0
  HasWide evidence =
      ((at : ℕ) × IsWide (length l.names) (operations_of l e) at)
      ⊎ (((at : ℕ) × IsWide (length l.names) (maps_operations l) at)
      ⊎ (HasWideWord l (polynomial_of l e) ⊎ HasWideTest l (polynomial_of l e) evidence))

  abbrev pub EndsDecided : Status → Type 0
  EndsDecided s = ((s ≡ status.Yes) × Holds l e) ⊎ ((s ≡ status.No) × ¬ (Holds l e))

  abbrev pub EndsAny : Evidence → Status → Type 0
  EndsAny evidence s =
      EndsDecided s
      ⊎ (((s ≡ status.Fault) × HasLimit l (polynomial_of l e))
      ⊎ (((s ≡ status.Wide) × HasWide evidence) ⊎ ((s ≡ status.Budget) ⊎ IsExcused s)))

pub record DecidesAny (request : Request) (call : Call) : Type 0 where
  -- yes: the equation holds at the end of every run, whatever the branches are; the text has the
  -- reduced basis of its closure, or is a valid certificate with its polynomial first; the entries
  -- of the meter are those of the closing, and of the divisions that prove its list closed
  pub holds : call.status ≡ status.Yes
      → IfTold call.files.before request.file
      (λ text. Wrote call.sink (Shows text request.equation request.evidence))
  pub closed : call.status ≡ status.Yes
      → IfTold call.files.before request.file
      (λ text. HasEnded text request.equation request.budget call.meter.after request.evidence)
  -- no: it doesn't; the text has the first word after which it doesn't hold, and its run from the
  -- first start; the entries are those of the closing
  pub refuted : call.status ≡ status.No
      → IfTold call.files.before request.file
      (λ text. Wrote call.sink (ShowsCounter text request.equation))
  pub countered : call.status ≡ status.No
      → IfTold call.files.before request.file
      (λ text. HasRefuted text request.equation request.budget call.meter.after)
  -- a fault, or a number that doesn't fit: the text tells the first fault of LOOP or of EQUATION,
  -- the first operation that forms the equation's polynomial or a map of the loop and can't be
  -- done, the word at which the closing stops, or the division behind it that stops
  pub why : TellsWhy call (Refuses call request)
  -- an exhausted budget: as many entries are units as the budget, and what comes next is a unit
  pub exhausted : call.status ≡ status.Budget
      → IfTold call.files.before request.file
      (λ text. Wrote call.sink
      (IsExhaustedDeciding text request.equation request.budget call.meter.after request.evidence))
  -- the meter is as it was, or was opened for the closing, and the entries follow it; it is as it
  -- was where an operation of the polynomial passes a limit
  pub journal : (call.meter.after ≡ call.meter.before)
      ⊎ IfTold call.files.before request.file
      (λ text. IsAsked text request.equation request.budget call.meter.after request.evidence)
  pub kept : (l : Program (Expr ℕ)) (e : Expr ℕ) (at : ℕ)
      → ReadsEquation call request l (Ok e) → IsLimit (length l.names) (operations_of l e) at
      → call.meter.after ≡ call.meter.before
  -- where the bytes are told, but for want of memory and faults of the outside: the first fault;
  -- the first operation of the equation's polynomial, and then of the maps, that passes a limit
  pub loop_fault : (fault : Fault) → ReadsLoop call request.file (Err fault)
      → Ends call (loop_refusal fault)
  pub equation_fault : (l : Program (Expr ℕ)) (fault : Fault)
      → ReadsEquation call request l (Err fault) → Ends call (equation_refusal fault)
  pub equation_limit : (l : Program (Expr ℕ)) (e : Expr ℕ) (at : ℕ)
      → ReadsEquation call request l (Ok e) → IsLimit (length l.names) (operations_of l e) at
      → EndsOrWide call (equation_refusal (record { reason = limit; at = at }))
  pub map_limit : (l : Program (Expr ℕ)) (e : Expr ℕ) (at : ℕ)
      → ReadsEquation call request l (Ok e) → FormsFreely l e
      → IsLimit (length l.names) (maps_operations l) at
      → EndsOrWide call (loop_refusal (record { reason = limit; at = at }))
  -- where none passes one, of every loop: yes exactly where the equation holds at the end of every
  -- run, no exactly where it doesn't, but for the causes of the others; no exhausted budget where the
  -- closing ends within it; and so yes or no where nothing stops it
  pub decided : (l : Program (Expr ℕ)) (e : Expr ℕ) → ReadsEquation call request l (Ok e)
      → FormsFreely l e → AreFree l → EndsAny l e request.evidence call.status
  pub enough : (l : Program (Expr ℕ)) (e : Expr ℕ) → ReadsEquation call request l (Ok e)
      → HasEnd l (polynomial_of l e) request.evidence request.budget
      → call.status ≢ status.Budget
  pub completes : (l : Program (Expr ℕ)) (e : Expr ℕ) → ReadsEquation call request l (Ok e)
      → FormsFreely l e → AreFree l → ¬ (HasLimit l (polynomial_of l e))
      → ¬ (HasWide l e request.evidence)
      → HasEnd l (polynomial_of l e) request.evidence request.budget
      → EndsDecided l e call.status ⊎ IsExcused call.status
  pub long : IsLonger call.files.before (loop_at request.file) → EndsTooLong call request.file
