-- Commands that begin by reading LOOP.
--   most_loop_bytes          how long LOOP may be;  loop_at name: the file
--   by_loop said next         a course by what a text says: the first fault ends it, a loop goes on
--   with_loop name next      LOOP is read, and so it goes on
--   IsLoopFault text a       a tells the first fault of the text
--   HasReadLoop name l files        LOOP was read, and it is the loop l
--   IsLoopOr name files result      LOOP was read into this loop, or refused so
--   ReadsLoop call name reading     the bytes of LOOP are told, and this is what they say: a loop, or a first fault
use Rattle.std.specs.Prelude.{ℕ, List, Result, Ok, Err}
use Rattle.io_edge.specs.Outside.{FilesView}
use Rattle.poly_text.specs.Reasons.{Fault}
use Rattle.loops.specs.Program.{Expr, Program}
use Rattle.loop_model.specs.declared.loop_.Loop.{Loop}
use Rattle.loop_model.specs.View.{program_of}
use Rattle.loop_text.specs.LoopReader.{loop_of}
use Rattle.io_edge.specs.declared.refusal.Refusal.{Refusal}
use Rattle.io_edge.specs.Texts.{Answer}
use Rattle.io_edge.specs.Course.{File, Course}
use Rattle.io_edge.specs.Change.{Change}
use Rattle.io_edge.specs.Outcome.{Call}
use Rattle.io_edge.specs.Reading.{by_reading, with_file, IsFaultOf, HasReadAs, IsRefusedAt, SaysOf}
use Rattle.command_parts.specs.FaultTexts.{loop_refusal}

abbrev pub most_loop_bytes : ℕ
most_loop_bytes = 65536

abbrev pub loop_at : List ℕ → File
loop_at name = record { name = name; limit = most_loop_bytes }

abbrev pub by_loop : Result (Program (Expr ℕ)) Fault → (Program (Expr ℕ) → Course) → Course
by_loop said next = by_reading loop_of loop_refusal said next

abbrev pub with_loop : List ℕ → (Program (Expr ℕ) → Course) → Course
with_loop name next = with_file loop_of loop_refusal (loop_at name) next

abbrev pub IsLoopFault : List ℕ → Answer → Type 0
IsLoopFault text a = IsFaultOf loop_of loop_refusal text a

abbrev pub HasReadLoop : List ℕ → Program (Expr ℕ) → Change FilesView → Type 0
HasReadLoop name l files = HasReadAs loop_of (loop_at name) l files

abbrev pub IsLoopOr : List ℕ → Change FilesView → Result Loop Refusal → Type 0
IsLoopOr name files (Ok lp) = HasReadLoop name (program_of lp) files
IsLoopOr name files (Err refusal) = IsRefusedAt loop_of loop_refusal (loop_at name) files refusal

abbrev pub ReadsLoop : Call → List ℕ → Result (Program (Expr ℕ)) Fault → Type 0
ReadsLoop call name said = SaysOf loop_of call (loop_at name) said
