-- What a text says: it is read by the grammar of programs.
--   program_in bytes s         the program that was read, and where the text ends
--   fault_at x why             the fault of a token: what can't stand where it does is one of syntax
--   program_or_fault bytes t   it, or the first fault
--   text_of bytes              what the text says, or its first fault
--   told_program result        what the answer of the reader says; nothing where memory failed
use Rattle.std.specs.Prelude.{ℕ, List, length, Option, Some, Result, Ok, Err, option_map, unwrap_or}
use Rattle.loops.specs.Program.{Expr}
use Rattle.grammars.specs.Grammar as grammar
use Rattle.grammars.specs.Reader.{read_whole}
use Rattle.poly_text.specs.Reasons.{Reason, syntax, Fault}
use Rattle.program_model.specs.Program.{Program}
use Rattle.program_model.specs.ProgramView.{program_of}
use Rattle.program_model.specs.declared.program.Program as code
use Rattle.program_text.specs.Faults.{fault_of}
use Rattle.program_text.specs.Lexemes.{Lexeme, tokens}
use Rattle.program_text.specs.Programs.{ProgramContext, ProgramValue, ProgramState, block_at, program_language, whole_program, nothing}
use Rattle.program_text.specs.Told.{Told, told}
use Rattle.program_text.specs.declared.error.ProgramTextError.{ProgramTextError}

abbrev pub program_in : List ℕ → ProgramState → Program (Expr ℕ)
program_in bytes s = record {
  names = s.context.names;
  statements = block_at 0 s.value;
  end = length bytes;
}

abbrev pub fault_at : grammar.Placed Lexeme → Option Reason → Fault
fault_at x why = record { reason = unwrap_or why syntax; at = x.at }

abbrev pub program_or_fault : List ℕ → Told ProgramContext ProgramValue
    → Result (Program (Expr ℕ)) Fault
program_or_fault bytes (Ok r) = Ok (program_in bytes r.0)
program_or_fault bytes (Err f) = Err f

abbrev pub text_of : List ℕ → Result (Program (Expr ℕ)) Fault
text_of bytes =
    program_or_fault bytes (told (read_whole program_language whole_program nothing (tokens bytes)))

abbrev pub told_program : Result code.Program ProgramTextError
    → Option (Result (Program (Expr ℕ)) Fault)
told_program (Ok p) = Some (Ok (program_of p))
told_program (Err e) = option_map Err (fault_of e)
