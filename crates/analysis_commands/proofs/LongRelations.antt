-- Where `relations` tells `limit: PLACE`.
--   relations_limit     no fault of FILE, and no other refusal, has such a text; the analysis of the loop has come to the task at this place, which is too long
use Rattle.std.proofs.Common.{◌≡◌, ℕ, List, sym, ap, ◌∙◌, inl, inr, arith}
use Rattle.std.specs.Prelude.{◌⊎◌, Some}
use Rattle.machines.specs.Journal.{Journal}
use Rattle.loops.specs.Program.{Expr}
use Rattle.loops.specs.Sequences.{Sequence}
use Rattle.loops.specs.Turning.{names, program_of, first_places}
use Rattle.poly_text.specs.Reasons.{Fault, limit, wide}
use Rattle.loop_model.specs.declared.map_error.MapError.TheVariants as map_error
use Rattle.invariant_fix.specs.RelationsRefusals.{IsRefused}
use Rattle.invariant_fix.specs.declared.errors.AnalyseError.TheVariants as error
use Rattle.invariant_fix.specs.declared.relations_error.RelationsError.{RelationsError}
use Rattle.invariant_fix.specs.declared.relations_error.RelationsError.TheVariants as relating
use Rattle.io_edge.specs.Texts.{Answer}
use Rattle.io_edge.proofs.OfStatuses.{no_answer, some_answer, text_of}
use Rattle.analysis_commands.specs.Analyses.{empty_journal}
use Rattle.analysis_commands.specs.RelationsTexts.{sequences_refusal, wide_answer, relations_refusal}
use Rattle.analysis_commands.specs.RelationsReading.{IsSequencesFault}
use Rattle.analysis_commands.specs.RelationsClauses.{IsUnrelated, IsToldLongRelating}
use Rattle.analysis_commands.specs.LongTasks.{limit_text, IsLongLoop}
use Rattle.analysis_commands.proofs.LongTasks.{first_byte, limit_alone, told_long}

-- no fault of FILE has such a text
fault_other : (fault : Fault) (a : Answer) (place : List ℕ) → a ≡ sequences_refusal fault
    → a.text ≡ limit_text place → ⊥
unfolding first_byte
fault_other fault a place is said =
    let x : 115 ≡ 108 = ap first_byte (sym (text_of is) ∙ said) in omega (arith, x)

wide_other : (a : Answer) (place : List ℕ) → a ≡ wide_answer → a.text ≡ limit_text place → ⊥
unfolding first_byte
wide_other a place is said =
    let x : 119 ≡ 108 = ap first_byte (sym (text_of is) ∙ said) in omega (arith, x)

module _ (qs : List (Sequence (Expr ℕ))) (budget : ℕ) (m : Journal) (a : Answer)
    (place : List ℕ) (limit_is : m.limit ≡ budget) (said : a.text ≡ limit_text place) where
  refused_long : (e : RelationsError)
      → IsRefused (program_of qs) (first_places 0 qs) (empty_journal budget) m e
      → relations_refusal (names qs) budget e ≡ Some a → IsLongLoop (program_of qs) m place
  refused_long (relating.Analysis (error.Map (map_error.Limit at))) cause says =
      let fault : Fault = record { reason = limit; at = at } in
      absurd (fault_other fault a place (some_answer (sequences_refusal fault) a says) said)
  refused_long (relating.Analysis (error.Map (map_error.Wide at))) cause says =
      let fault : Fault = record { reason = wide; at = at } in
      absurd (fault_other fault a place (some_answer (sequences_refusal fault) a says) said)
  refused_long (relating.Analysis (error.Map map_error.Memory)) cause says =
      absurd (no_answer a says)
  refused_long (relating.Analysis (error.Branch b e)) cause says =
      told_long (program_of qs) budget m a place (error.Branch b e) (limit_is, cause) says said
  refused_long (relating.Analysis (error.Limit task)) cause says =
      told_long (program_of qs) budget m a place (error.Limit task) (limit_is, cause) says said
  refused_long (relating.Analysis (error.Wide task)) cause says =
      told_long (program_of qs) budget m a place (error.Wide task) (limit_is, cause) says said
  refused_long (relating.Analysis error.Budget) cause says =
      told_long (program_of qs) budget m a place error.Budget (limit_is, cause) says said
  refused_long (relating.Analysis error.Memory) cause says = absurd (no_answer a says)
  refused_long relating.Wide cause says =
      absurd (wide_other a place (some_answer wide_answer a says) said)
  refused_long relating.Budget cause says =
      absurd (let x = limit_alone (names qs) budget a place said error.Budget says in
      let z = x.is in let q : ⊥ = cc in q)
  refused_long relating.Memory cause says = absurd (no_answer a says)

pub relations_limit : (budget : ℕ) (m : Journal) (text : List ℕ) (a : Answer) (place : List ℕ)
    → IsSequencesFault text a ⊎ IsUnrelated text budget m a → a.text ≡ limit_text place
    → IsToldLongRelating text m place
relations_limit budget m text a place (inl fault) said =
    absurd (fault_other fault.fault a place fault.says said)
relations_limit budget m text a place (inr h) said =
    let u = h.unfound in
    record {
      sequences = h.sequences;
      are_sequences = h.are_sequences;
      is = refused_long h.sequences budget m a place u.ends.0 said u.error u.ends.1 u.says;
    }
