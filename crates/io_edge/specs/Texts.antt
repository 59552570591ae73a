-- What an answer is, and the answers that all commands have.
--   Answer                  a status and a text
--   line text               the text with a line's end
--   with_text status text   the answer of the two;  answer status text: with a line's end
--   memory_answer           that of want of memory
--   too_long name           that to a file of more bytes than it may have
--   unread name e           that to a read that gave no bytes for this reason; to want of memory nothing is
use Rattle.std.specs.Prelude.{ℕ, List, ◌++◌, Option, Some, None, codes}
use Rattle.io_edge.specs.declared.files.FilesError.{FilesError}
use Rattle.io_edge.specs.declared.files.FilesError.TheVariants.{TooLong, Failed, Memory}
use Rattle.io_edge.specs.declared.answer.Status.{Status}
use Rattle.io_edge.specs.declared.answer.Status.TheVariants as status

pub record Answer : Type 0 where
  pub status : Status
  pub text : List ℕ

abbrev pub line : List ℕ → List ℕ
line text = text ++ codes "\n"

abbrev pub with_text : Status → List ℕ → Answer
with_text status text = record { status = status; text = text }

abbrev pub answer : Status → List ℕ → Answer
answer status text = with_text status (line text)

abbrev pub memory_answer : Answer
memory_answer = answer status.Memory (codes "memory")

abbrev pub too_long : List ℕ → Answer
too_long name = answer status.ReadFault (codes "too long: " ++ name)

abbrev pub unread : List ℕ → FilesError → Option Answer
unread name TooLong = Some (too_long name)
unread name Failed = Some (answer status.ReadFault (codes "read fault: " ++ name))
unread name Memory = None
