-- Courses that read FILE and then end.
--   sequences_refuse      a fault of FILE refuses
--   sequences_are         the reader answered sequences
--   reading_sequences     FILE is read, a fault of it is told, and behind sequences the course ends so
use Rattle.std.proofs.Common.{◌≡◌, ℕ, List, Ok}
use Rattle.std.specs.Prelude.{codes}
use Rattle.machines.specs.Journal.{Journal}
use Rattle.io_edge.specs.Outside.{FilesView}
use Rattle.poly_text.specs.Reasons.{Fault}
use Rattle.loops.specs.Program.{Expr}
use Rattle.loops.specs.Sequences.{Sequence}
use Rattle.loop_text.specs.SeqReader.{sequences_of}
use Rattle.loop_text.specs.declared.sequences.Seqs.{Seqs}
use Rattle.loop_text.specs.SequenceSeen.{IsReadAs}
use Rattle.io_edge.specs.Texts.{Answer}
use Rattle.io_edge.specs.Settled.{IsRefusing}
use Rattle.io_edge.specs.Outcome.{HasRead}
use Rattle.io_edge.specs.Change.{Change}
use Rattle.io_edge.proofs.OneFile.{OneFile}
use Rattle.command_parts.specs.LoopReading.{loop_at}
use Rattle.command_parts.proofs.LoopCourses.{text_refuses}
use Rattle.analysis_commands.specs.RelationsTexts.{sequences_refusal}
use Rattle.analysis_commands.specs.RelationsReading.{HasReadSequences}

pub sequences_refuse : (fault : Fault) (a : Answer) → a ≡ sequences_refusal fault
    → IsRefusing a.status
sequences_refuse = text_refuses (codes "sequences: ")

pub sequences_are : (name text : List ℕ) (s : Seqs) (files : Change FilesView)
    → HasRead (loop_at name) (Ok text) files → IsReadAs s (sequences_of text)
    → HasReadSequences name s files
sequences_are name text s files read h = record {
  sequences = h.sequences;
  read = record { text = text; read = read; says = h.said };
  is = h.is;
}

abbrev pub reading_sequences : List ℕ → (List (Sequence (Expr ℕ)) → Journal → Type 0)
    → (List (Sequence (Expr ℕ)) → Journal → Answer → Type 0)
    → OneFile (List (Sequence (Expr ℕ))) Fault
reading_sequences name Leaves Answers = record {
  reading = sequences_of;
  refusal_of = sequences_refusal;
  refuses = sequences_refuse;
  file = loop_at name;
  Leaves = Leaves;
  Answers = Answers;
}
