-- The program's values as the definitions see them.
--   answer_view a         an answer;  seen_answer r: it, or none where memory failed
use Rattle.std.specs.Prelude.{Option, Some, None, Result, Ok, Err}
use Rattle.std.specs.declared.alloc.AllocError.{AllocError}
use Rattle.io_edge.specs.declared.answer.Answer as made
use Rattle.io_edge.specs.Texts.{Answer}

abbrev pub answer_view : made.Answer → Answer
answer_view a = record { status = a.status; text = a.text.items }

abbrev pub seen_answer : Result made.Answer AllocError → Option Answer
seen_answer (Ok a) = Some (answer_view a)
seen_answer (Err e) = None
