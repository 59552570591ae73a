-- FILE, as `relations` reads it.
--   with_sequences name next      FILE is read, and so it goes on
--   IsSequencesFault text a       a tells the first fault of the text
--   HasReadSequences name s files     FILE was read, and s is its sequences as a loop
--   AreSequencesOr name files result     FILE was read into this loop, or refused so
--   ReadsSequences call name reading     the bytes of FILE are told, and this is what they say
use Rattle.std.specs.Prelude.{ℕ, List, Result, Ok, Err}
use Rattle.io_edge.specs.Outside.{FilesView}
use Rattle.loops.specs.Program.{Expr}
use Rattle.poly_text.specs.Reasons.{Fault}
use Rattle.loops.specs.Sequences.{Sequence}
use Rattle.loop_text.specs.SeqReader.{sequences_of}
use Rattle.loop_text.specs.declared.sequences.Seqs.{Seqs}
use Rattle.loop_text.specs.SequenceSeen.{IsLoopOf}
use Rattle.io_edge.specs.declared.refusal.Refusal.{Refusal}
use Rattle.io_edge.specs.Texts.{Answer}
use Rattle.io_edge.specs.Course.{Course}
use Rattle.io_edge.specs.Change.{Change}
use Rattle.io_edge.specs.Outcome.{Call}
use Rattle.io_edge.specs.Reading.{with_file, IsFaultOf, HasReadAs, IsRefusedAt, SaysOf}
use Rattle.command_parts.specs.LoopReading.{loop_at}
use Rattle.analysis_commands.specs.RelationsTexts.{sequences_refusal}

abbrev pub with_sequences : List ℕ → (List (Sequence (Expr ℕ)) → Course) → Course
with_sequences name next = with_file sequences_of sequences_refusal (loop_at name) next

abbrev pub IsSequencesFault : List ℕ → Answer → Type 0
IsSequencesFault text a = IsFaultOf sequences_of sequences_refusal text a

pub record HasReadSequences (name : List ℕ) (s : Seqs) (files : Change FilesView) : Type 0 where
  pub sequences : List (Sequence (Expr ℕ))
  pub read : HasReadAs sequences_of (loop_at name) sequences files
  pub is : IsLoopOf s sequences

abbrev pub AreSequencesOr : List ℕ → Change FilesView → Result Seqs Refusal → Type 0
AreSequencesOr name files (Ok s) = HasReadSequences name s files
AreSequencesOr name files (Err refusal) =
    IsRefusedAt sequences_of sequences_refusal (loop_at name) files refusal

abbrev pub ReadsSequences : Call → List ℕ → Result (List (Sequence (Expr ℕ))) Fault → Type 0
ReadsSequences call name said = SaysOf sequences_of call (loop_at name) said
