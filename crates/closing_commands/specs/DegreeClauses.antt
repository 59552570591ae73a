-- What `basis` and `cert` promise up to a degree d.
--   HasEnded evidence text d n m     the bytes are a loop, and the journal m, with this budget, is that of the search, and of the divisions behind it, which has ended
--   StopsSearch evidence text d n m a     they are, and a tells by what the search that left m stops
--   IsExhaustedSearch evidence text d n m said     they are, as many entries are units as the budget, what comes next is a unit, and the budget is said
--   IsSearched evidence text d n m   they are, and the meter was opened for the search
--   Refuses call request a           a tells the first fault of LOOP, or what stopped
--   HasLimit l d, HasWide evidence l d     too many monomials, or some journal of a search leads to a composition that passes a limit; an operation of the maps, or what a journal leads to, may not fit, or a sample tells nothing, or an element is missing
--   IsWithin evidence l d n          no journal of a search has n units where one comes next
--   EndsUpTo evidence l d s          yes; or a fault or a number that doesn't fit, by such a cause; or an exhausted budget; or excused
--   FindsUpTo request call           the clauses
use Rattle.std.specs.Prelude.{◌≡◌, ◌≢◌, ◌⊎◌, ℕ, List, length, Ok, Err}
use Rattle.algebra.specs.Fraction.{Fraction}
use Rattle.polynomials.specs.Terms.{Terms}
use Rattle.machines.specs.Journal.{Journal, Entry}
use Rattle.loops.specs.Program.{Expr, Program}
use Rattle.poly_text.specs.Reasons.{Fault, limit}
use Rattle.loop_model.specs.Operations.{IsLimit, IsWide}
use Rattle.loop_model.specs.Maps.{maps_operations, AreFree}
use Rattle.loop_text.specs.LoopReader.{loop_of}
use Rattle.closing.specs.SearchCauses.{IsNoSample, HasNoElement}
use Rattle.io_edge.specs.declared.answer.Status.{Status}
use Rattle.io_edge.specs.declared.answer.Status.TheVariants as status
use Rattle.io_edge.specs.Texts.{Answer}
use Rattle.io_edge.specs.Outcome.{Call}
use Rattle.io_edge.specs.Clauses.{Wrote, TellsWhy, IfTold, IsExcused, Ends, EndsOrWide, EndsTooLong, IsLonger}
use Rattle.command_parts.specs.FaultTexts.{loop_refusal, exhausted_answer}
use Rattle.command_parts.specs.LoopReading.{loop_at, IsLoopFault, ReadsLoop}
use Rattle.closing_commands.specs.declared.evidence.Evidence.{Evidence}
use Rattle.closing_commands.specs.Degrees.{HasFound, IsOutOf, IsLimitWord, IsWideWord, IsWideTest, HasMany, TellsStop, HasSearched}
use Rattle.closing_commands.specs.DegreeTexts.{degree_answer}
use Rattle.closing_commands.specs.DegreeHeadline.{ShowsUpTo}
use Rattle.closing_commands.specs.DegreeArguments.{Request}

-- ---- over the bytes of the file, and the meter
module _ (evidence : Evidence) (text : List ℕ) (d n : ℕ) (m : Journal) where
  pub record HasEnded : Type 0 where
    pub loop : Program (Expr ℕ)
    pub is_loop : loop_of text ≡ Ok loop
    pub free : AreFree loop
    pub limit : m.limit ≡ n
    pub list : List (Terms Fraction)
    pub closure : List (Terms Fraction)
    pub ends : HasFound loop d m.entries evidence list closure

  pub record StopsSearch (a : Answer) : Type 0 where
    pub loop : Program (Expr ℕ)
    pub is_loop : loop_of text ≡ Ok loop
    pub limit : m.limit ≡ n
    pub stops : TellsStop loop d m evidence a

  pub record IsExhaustedSearch (said : List ℕ) : Type 0 where
    pub loop : Program (Expr ℕ)
    pub is_loop : loop_of text ≡ Ok loop
    pub limit : m.limit ≡ n
    pub maps : AreFree loop
    pub out : IsOutOf loop d m.entries evidence n
    pub says : said ≡ (exhausted_answer n).text

  pub record IsSearched : Type 0 where
    pub loop : Program (Expr ℕ)
    pub is_loop : loop_of text ≡ Ok loop
    pub searched : HasSearched loop d m evidence n

abbrev pub Refuses : Call → Request → Answer → Type 0
Refuses call request a = IfTold call.files.before request.file (λ text.
    IsLoopFault text a
    ⊎ StopsSearch request.evidence text request.degree request.budget call.meter.after a)

-- ---- what may come, whatever the call does
module _ (l : Program (Expr ℕ)) (d : ℕ) where
  abbrev pub HasLimit : Type 0
  HasLimit = HasMany l d
      ⊎ ((es : List Entry) × (w : List ℕ) × IsLimitWord l d es w)

  module _ (evidence : Evidence) where
    abbrev pub HasWide : Type 0
    HasWide =
        ((at : ℕ) × IsWide (length l.names) (maps_operations l) at)
        ⊎ (((es : List Entry) × IsNoSample l d es)
        ⊎ (((es : List Entry) × (e : List ℕ) × HasNoElement l d es e)
        ⊎ (((es : List Entry) × (w : List ℕ) × IsWideWord l d es w)
        ⊎ ((es : List Entry) × (b : ℕ) × (i : ℕ) × IsWideTest l d es evidence b i))))

    pub record IsWithin (n : ℕ) : Type 0 where
      pub never : (es : List Entry) → ¬ (IsOutOf l d es evidence n)

    abbrev pub EndsUpTo : Status → Type 0
    EndsUpTo s =
        (s ≡ status.Yes)
        ⊎ (((s ≡ status.Fault) × HasLimit)
        ⊎ (((s ≡ status.Wide) × HasWide) ⊎ ((s ≡ status.Budget) ⊎ IsExcused s)))

pub record FindsUpTo (request : Request) (call : Call) : Type 0 where
  -- yes: the text is the part up to the degree of the reduced basis of all invariants, whatever the
  -- branches are; or a valid certificate that lists it first; the entries of the meter are those of
  -- the search, and of the divisions that prove its list closed
  pub found : call.status ≡ status.Yes
      → IfTold call.files.before request.file
      (λ text. Wrote call.sink (ShowsUpTo text request.degree request.evidence))
  pub ended : call.status ≡ status.Yes
      → IfTold call.files.before request.file
      (λ text. HasEnded request.evidence text request.degree request.budget call.meter.after)
  -- a fault, or a number that doesn't fit: the text tells the first fault of LOOP, the first
  -- operation of a map that can't be done, or what stops the search
  pub why : TellsWhy call (Refuses call request)
  -- an exhausted budget: as many entries are units as the budget, and what comes next is a unit
  pub exhausted : call.status ≡ status.Budget
      → IfTold call.files.before request.file
      (λ text. Wrote call.sink
      (IsExhaustedSearch request.evidence text request.degree request.budget call.meter.after))
  -- never no
  pub no : call.status ≢ status.No
  -- the meter is as it was, or was opened for the search, and the entries follow it
  pub journal : (call.meter.after ≡ call.meter.before)
      ⊎ IfTold call.files.before request.file
      (λ text. IsSearched request.evidence text request.degree request.budget call.meter.after)
  -- where the bytes are told, but for want of memory and faults of the outside: the first fault;
  -- the first operation of the maps that passes a limit; too many monomials
  pub loop_fault : (fault : Fault) → ReadsLoop call request.file (Err fault)
      → Ends call (loop_refusal fault)
  pub map_limit : (l : Program (Expr ℕ)) (at : ℕ) → ReadsLoop call request.file (Ok l)
      → IsLimit (length l.names) (maps_operations l) at
      → EndsOrWide call (loop_refusal (record { reason = limit; at = at }))
  pub degree_limit : (l : Program (Expr ℕ)) → ReadsLoop call request.file (Ok l) → AreFree l
      → HasMany l request.degree → EndsOrWide call (degree_answer request.degree)
  -- where no map passes a limit, of every loop: yes, but for the causes of the others; no exhausted
  -- budget where no search goes beyond it; and so yes where nothing stops it
  pub decided : (l : Program (Expr ℕ)) → ReadsLoop call request.file (Ok l) → AreFree l
      → EndsUpTo l request.degree request.evidence call.status
  pub enough : (l : Program (Expr ℕ)) → ReadsLoop call request.file (Ok l)
      → IsWithin l request.degree request.evidence request.budget → call.status ≢ status.Budget
  pub completes : (l : Program (Expr ℕ)) → ReadsLoop call request.file (Ok l) → AreFree l
      → ¬ (HasLimit l request.degree) → ¬ (HasWide l request.degree request.evidence)
      → IsWithin l request.degree request.evidence request.budget
      → (call.status ≡ status.Yes) ⊎ IsExcused call.status
  -- a file that is too long
  pub long : IsLonger call.files.before (loop_at request.file) → EndsTooLong call request.file
