-- PROGRAM as it is read: a text, and the program that it is.
--   Source                      both
--   source_of text              them, or the first fault of the text
--   most_program_bytes          how long PROGRAM may be;  program_at name: the file
--   program_refusal f           the answer to its first fault, or to what stops the forming of its transitions
--   with_program name next      PROGRAM is read, and so it goes on
--   IsProgramFault text a       a tells the first fault of the text
--   HasReadProgram name s files     PROGRAM was read, and it is s
--   ReadsProgram call name said     the bytes of PROGRAM are told, and this is what they say
use Rattle.std.specs.Prelude.{ℕ, List, Result, Ok, Err, codes}
use Rattle.loops.specs.Program.{Expr}
use Rattle.poly_text.specs.Reasons.{Fault}
use Rattle.program_model.specs.Program.{Program}
use Rattle.program_text.specs.ProgramReader.{text_of}
use Rattle.io_edge.specs.Outside.{FilesView}
use Rattle.io_edge.specs.Texts.{Answer}
use Rattle.io_edge.specs.Course.{File, Course}
use Rattle.io_edge.specs.Change.{Change}
use Rattle.io_edge.specs.Outcome.{Call}
use Rattle.io_edge.specs.Reading.{with_file, IsFaultOf, HasReadAs, SaysOf}
use Rattle.command_parts.specs.FaultTexts.{text_refusal}

pub record Source : Type 0 where
  pub text : List ℕ
  pub program : Program (Expr ℕ)

abbrev pub beside : List ℕ → Result (Program (Expr ℕ)) Fault → Result Source Fault
beside text (Ok p) = Ok (record { text = text; program = p })
beside text (Err fault) = Err fault

abbrev pub source_of : List ℕ → Result Source Fault
source_of text = beside text (text_of text)

abbrev pub most_program_bytes : ℕ
most_program_bytes = 65536

abbrev pub program_at : List ℕ → File
program_at name = record { name = name; limit = most_program_bytes }

abbrev pub program_refusal : Fault → Answer
program_refusal f = text_refusal (codes "program: ") f

abbrev pub with_program : List ℕ → (Source → Course) → Course
with_program name next = with_file source_of program_refusal (program_at name) next

abbrev pub IsProgramFault : List ℕ → Answer → Type 0
IsProgramFault text a = IsFaultOf source_of program_refusal text a

abbrev pub HasReadProgram : List ℕ → Source → Change FilesView → Type 0
HasReadProgram name s files = HasReadAs source_of (program_at name) s files

abbrev pub ReadsProgram : Call → List ℕ → Result Source Fault → Type 0
ReadsProgram call name said = SaysOf source_of call (program_at name) said
