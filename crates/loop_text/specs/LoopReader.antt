-- What a text says: it is read by the grammar of loops.
--   program_in s           the program that was read
--   program_or_fault t     it, or the first fault; fault_at x why: that of the token x
--   loop_of bytes          what the text says, or its first fault
use Rattle.std.specs.Prelude.{ℕ, List, Option, Result, Ok, Err, unwrap_or}
use Rattle.loops.specs.Program.{Program, Expr}
use Rattle.grammars.specs.Reader.{read_whole}
use Rattle.poly_text.specs.Lexemes.{Placed, tokens}
use Rattle.poly_text.specs.Reasons.{Reason, syntax, Fault}
use Rattle.poly_text.specs.Told.{Told, told}
use Rattle.loop_text.specs.Loops.{LoopContext, LoopValue, LoopState, loop_language, whole_loop, nothing}

abbrev pub program_in : LoopState → Program (Expr ℕ)
program_in s = record {
  names = s.context.names;
  locals = s.context.locals;
  init = s.value.init;
  branches = s.value.branches;
}

abbrev pub program_or_fault : Told LoopContext LoopValue → Result (Program (Expr ℕ)) Fault
program_or_fault (Ok r) = Ok (program_in r.0)
program_or_fault (Err f) = Err f

-- what can't stand where it does is a fault of syntax
abbrev pub fault_at : Placed → Option Reason → Fault
fault_at x why = record { reason = unwrap_or why syntax; at = x.at }

abbrev pub loop_of : List ℕ → Result (Program (Expr ℕ)) Fault
loop_of bytes = program_or_fault (told (read_whole loop_language whole_loop nothing (tokens bytes)))
