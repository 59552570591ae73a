-- How the journal of relations ends, and what `relations` answers then.
--   AreSequences s             s is the loop of some sequences
--   HasRelations qs m gs       the journal m has ended with the list gs: the reduced basis of the relations of the qs
--   Ending                     related: a list; refused: why there is none
--   EndsWith qs budget m e     the journal with this budget ends with e, and is m; what is told of a list can be read back
--   answer_of qs budget e      what is answered; to want of memory nothing is
--   Relates qs budget m a      a is the answer to an ending that leaves m
--   AnswersUnrelated qs budget m a     a tells why the journal with this budget, which is m, has no relations
--   HasRelated qs budget m     the meter was opened with this budget, and its entries are a beginning of the journal
use Rattle.std.specs.Prelude.{◌≡◌, ℕ, List, length, Option, Some}
use Rattle.algebra.specs.Fraction.{Fraction, rationals}
use Rattle.polynomials.specs.Order.{grevlex}
use Rattle.polynomials.specs.Terms.{Terms}
use Rattle.machines.specs.Journal.{Journal}
use Rattle.machines.specs.Reduced.{IsReducedFor}
use Rattle.loops.specs.Program.{Expr}
use Rattle.loop_model.specs.Maps.{AreFree}
use Rattle.invariant_fix.specs.Refusals.{AllHaveForms}
use Rattle.loops.specs.Sequences.{Sequence, sequence_names, AreFormed}
use Rattle.loops.specs.Turning.{names, program_of, first_places}
use Rattle.loops.specs.Relations.{IsRelation}
use Rattle.corollaries.specs.Journal.{IsEnded, HasFollowed}
use Rattle.loop_text.specs.declared.sequences.Seqs.{Seqs}
use Rattle.loop_text.specs.SequenceSeen.{IsLoopOf}
use Rattle.invariant_fix.specs.RelationsRefusals.{IsRefused}
use Rattle.invariant_fix.specs.declared.relations_error.RelationsError.{RelationsError}
use Rattle.command_parts.specs.ReadBack.{IsReadBack}
use Rattle.analysis_commands.specs.RelationsHeadline.{Generate}
use Rattle.analysis_commands.specs.Analyses.{empty_journal}
use Rattle.analysis_commands.specs.RelationsTexts.{found_answer, relations_refusal}
use Rattle.io_edge.specs.Texts.{Answer}

pub record AreSequences (s : Seqs) : Type 0 where
  pub sequences : List (Sequence (Expr ℕ))
  pub is : IsLoopOf s sequences

pub data Ending : Type 0 where
  related : List (Terms Fraction) → Ending
  refused : RelationsError → Ending

module _ (qs : List (Sequence (Expr ℕ))) where
  pub record HasRelations (m : Journal) (gs : List (Terms Fraction)) : Type 0 where
    pub formed : AreFormed qs
    pub free : AreFree (program_of qs)
    pub forms : AllHaveForms (program_of qs)
    pub ended : IsEnded (program_of qs) (first_places 0 qs) m.entries gs
    pub basis : IsReducedFor rationals grevlex (length qs) gs (IsRelation qs)
    pub generates : Generate (length qs) gs (IsRelation qs)

  abbrev pub EndsWith : ℕ → Journal → Ending → Type 0
  EndsWith budget m (related gs) =
      (m.limit ≡ budget) × HasRelations m gs × IsReadBack (sequence_names qs) gs
  EndsWith budget m (refused e) =
      (m.limit ≡ budget) × IsRefused (program_of qs) (first_places 0 qs) (empty_journal budget) m e

  abbrev pub answer_of : ℕ → Ending → Option Answer
  answer_of budget (related gs) = Some (found_answer (sequence_names qs) gs)
  answer_of budget (refused e) = relations_refusal (names qs) budget e

  pub record Relates (budget : ℕ) (m : Journal) (a : Answer) : Type 0 where
    pub ending : Ending
    pub ends : EndsWith budget m ending
    pub says : answer_of budget ending ≡ Some a

  pub record HasRelated (budget : ℕ) (m : Journal) : Type 0 where
    pub limit : m.limit ≡ budget
    pub follows : HasFollowed (program_of qs) (first_places 0 qs) m.entries

  -- a tells why there are none
  pub record AnswersUnrelated (budget : ℕ) (m : Journal) (a : Answer) : Type 0 where
    pub error : RelationsError
    pub ends : EndsWith budget m (refused error)
    pub says : relations_refusal (names qs) budget error ≡ Some a
