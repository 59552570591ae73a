-- What `relations` promises.
--   HasEnded text budget m        they are sequences, and the journal m, with this budget, is that of their relations, which has ended
--   IsExhaustedRelating text budget m said    they are sequences whose maps are free and whose loop has closed forms, the entries of m are a beginning of this journal, as many of them are units as the budget, what comes next is a unit, and the budget is said
--   IsUnrelated text budget m a   they are sequences, and a tells why there are no relations
--   IsToldLongRelating text m place   they are sequences, and the entries of m follow the analysis of their loop up to the task at this place, which is too long
--   IsRelating text budget m      they are sequences, and the meter was opened for the journal of their relations
--   IsRelatedWithin qs budget            some journal of relations that has ended has at most as many units as the budget
--   IsNeverStopped qs             nothing refuses the analysis of their loop, and no state of the elimination behind it is past
--   Refuses call request a        a tells the first fault of FILE, or why the journal that left the meter so has no relations
--   FindsRelations request call   the clauses
use Rattle.std.specs.Prelude.{◌≡◌, ◌≢◌, ◌⊎◌, ℕ, ◌≤◌, List, length, Ok, Err, codes, ◌++◌, decimal}
use Rattle.algebra.specs.Fraction.{Fraction}
use Rattle.polynomials.specs.Terms.{Terms}
use Rattle.machines.specs.Journal.{Journal, Entry as Made, units_of}
use Rattle.loops.specs.Program.{Expr}
use Rattle.poly_text.specs.Reasons.{Fault, limit}
use Rattle.loop_model.specs.Operations.{IsLimit}
use Rattle.loop_model.specs.Maps.{maps_operations, AreFree}
use Rattle.closed_forms.specs.Refusal.{Refusal}
use Rattle.invariant_fix.specs.Refusals.{AllHaveForms, IsRefusedBranch}
use Rattle.loops.specs.Sequences.{Sequence}
use Rattle.loops.specs.Turning.{names, program_of, first_places}
use Rattle.corollaries.specs.Journal.{IsEnded, IsOut, IsStopped}
use Rattle.loop_text.specs.SeqReader.{sequences_of}
use Rattle.analysis_commands.specs.RefusalTexts.{branch_answer}
use Rattle.analysis_commands.specs.Completeness.{AllSplit, EndsFound}
use Rattle.analysis_commands.specs.Causes.{IsNeverLong, IsNeverRefused, IsExact}
use Rattle.analysis_commands.specs.LongTasks.{IfLimit, IsLongLoop}
use Rattle.analysis_commands.specs.RelationsAnswers.{HasRelated, AnswersUnrelated}
use Rattle.analysis_commands.specs.RelationsTexts.{sequences_refusal}
use Rattle.analysis_commands.specs.RelationsReading.{IsSequencesFault, ReadsSequences}
use Rattle.command_parts.specs.FileRequests.{FileRequest}
use Rattle.io_edge.specs.declared.answer.Status.TheVariants as status
use Rattle.io_edge.specs.Texts.{Answer, line}
use Rattle.io_edge.specs.Outcome.{Call}
use Rattle.io_edge.specs.Clauses.{Wrote, TellsWhy, IfTold, IsExcused, Ends, EndsOrWide, EndsAtFault, EndsTooLong, IsLonger}
use Rattle.command_parts.specs.LoopReading.{loop_at}
use Rattle.analysis_commands.specs.RelationsHeadline.{ShowsRelations}

pub record HasEnded (text : List ℕ) (budget : ℕ) (m : Journal) : Type 0 where
  pub sequences : List (Sequence (Expr ℕ))
  pub are_sequences : sequences_of text ≡ Ok sequences
  pub free : AreFree (program_of sequences)
  pub limit : m.limit ≡ budget
  pub list : List (Terms Fraction)
  pub ended : IsEnded (program_of sequences) (first_places 0 sequences) m.entries list

pub record IsExhaustedRelating (text : List ℕ) (budget : ℕ) (m : Journal) (said : List ℕ) : Type
    0 where
  pub sequences : List (Sequence (Expr ℕ))
  pub are_sequences : sequences_of text ≡ Ok sequences
  pub free : AreFree (program_of sequences)
  pub forms : AllHaveForms (program_of sequences)
  pub limit : m.limit ≡ budget
  pub out : IsOut (program_of sequences) (first_places 0 sequences) budget m.entries
  pub says : said ≡ line (codes "budget: " ++ decimal budget)

pub record IsUnrelated (text : List ℕ) (budget : ℕ) (m : Journal) (a : Answer) : Type 0 where
  pub sequences : List (Sequence (Expr ℕ))
  pub are_sequences : sequences_of text ≡ Ok sequences
  pub unfound : AnswersUnrelated sequences budget m a

pub record IsToldLongRelating (text : List ℕ) (m : Journal) (place : List ℕ) : Type 0 where
  pub sequences : List (Sequence (Expr ℕ))
  pub are_sequences : sequences_of text ≡ Ok sequences
  pub is : IsLongLoop (program_of sequences) m place

pub record IsRelating (text : List ℕ) (budget : ℕ) (m : Journal) : Type 0 where
  pub sequences : List (Sequence (Expr ℕ))
  pub are_sequences : sequences_of text ≡ Ok sequences
  pub related : HasRelated sequences budget m

pub record IsRelatedWithin (qs : List (Sequence (Expr ℕ))) (budget : ℕ) : Type 0 where
  pub entries : List Made
  pub list : List (Terms Fraction)
  pub ended : IsEnded (program_of qs) (first_places 0 qs) entries list
  pub few : units_of entries ≤ budget

pub record IsNeverStopped (qs : List (Sequence (Expr ℕ))) : Type 0 where
  pub analysis : IsNeverRefused (program_of qs)
  pub elimination : (es : List Made) → IsStopped (program_of qs) (first_places 0 qs) es → ⊥

abbrev pub Refuses : Call → FileRequest → Answer → Type 0
Refuses call request a = IfTold call.files.before request.file
    (λ text. IsSequencesFault text a ⊎ IsUnrelated text request.budget call.meter.after a)

pub record FindsRelations (request : FileRequest) (call : Call) : Type 0 where
  -- yes: the text is the reduced basis of all relations, and the entries of the meter are those of
  -- the journal that has ended
  pub basis : call.status ≡ status.Yes → IfTold call.files.before request.file
      (λ text. Wrote call.sink (ShowsRelations text))
  pub ended : call.status ≡ status.Yes → IfTold call.files.before request.file
      (λ text. HasEnded text request.budget call.meter.after)
  -- a fault, or a number that doesn't fit: the text tells the first fault of FILE, or why there are
  -- no relations
  pub why : TellsWhy call (Refuses call request)
  -- an exhausted budget: as many entries are units as the budget, and what comes next is a unit
  pub exhausted : call.status ≡ status.Budget → IfTold call.files.before request.file
      (λ text. Wrote call.sink (IsExhaustedRelating text request.budget call.meter.after))
  -- never no
  pub no : call.status ≢ status.No
  -- the meter is opened with the budget, and the entries are a beginning of the journal of
  -- relations
  pub journal : (call.meter.after ≡ call.meter.before)
      ⊎ IfTold call.files.before request.file
      (λ text. IsRelating text request.budget call.meter.after)
  -- where the bytes are told, but for want of memory and faults of the outside: the first fault
  pub sequences_fault : (fault : Fault) → ReadsSequences call request.file (Err fault)
      → Ends call (sequences_refusal fault)
  -- the first operation of the maps that passes a limit
  pub limit_passed : (qs : List (Sequence (Expr ℕ))) (at : ℕ)
      → ReadsSequences call request.file (Ok qs)
      → IsLimit (length (names qs)) (maps_operations (program_of qs)) at
      → EndsOrWide call (sequences_refusal (record { reason = limit; at = at }))
  -- the loop's branch, where it has no closed form
  pub branch_refused : (qs : List (Sequence (Expr ℕ))) (b : ℕ) (r : Refusal)
      → ReadsSequences call request.file (Ok qs) → AreFree (program_of qs) → IsExact r
      → IsRefusedBranch (program_of qs) b r
      → EndsOrWide call (branch_answer (names qs) b r)
  pub unformed : (qs : List (Sequence (Expr ℕ))) → ReadsSequences call request.file (Ok qs)
      → AreFree (program_of qs) → ¬ (AllHaveForms (program_of qs)) → EndsAtFault call.status
  -- a fault that says `limit: PLACE`: the maps are free, the branch has a closed form, and the
  -- entries lead to the task of the analysis at this place, which is too long
  pub limit_told : call.status ≡ status.Fault → Wrote call.sink (λ said. IfLimit said (λ place.
      IfTold call.files.before request.file
      (λ text. IsToldLongRelating text call.meter.after place)))
  -- where it has one, the relations, but for numbers that don't fit and an exhausted budget
  pub found : (qs : List (Sequence (Expr ℕ))) → ReadsSequences call request.file (Ok qs)
      → AreFree (program_of qs) → AllSplit (program_of qs) → IsNeverLong (program_of qs)
      → EndsFound call.status
  -- the budget isn't exhausted where some journal that has ended has at most as many units
  pub enough : (qs : List (Sequence (Expr ℕ))) → ReadsSequences call request.file (Ok qs)
      → IsRelatedWithin qs request.budget → call.status ≢ status.Budget
  -- and so, where nothing refuses, there are the relations
  pub completes : (qs : List (Sequence (Expr ℕ))) → ReadsSequences call request.file (Ok qs)
      → IsNeverStopped qs → IsRelatedWithin qs request.budget
      → (call.status ≡ status.Yes) ⊎ IsExcused call.status
  -- a file that is too long
  pub long : IsLonger call.files.before (loop_at request.file) → EndsTooLong call request.file
