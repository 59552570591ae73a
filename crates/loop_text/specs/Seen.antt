-- What the answer of the reader of loops says.
--   loop_or_fault result      the program with its offsets, or the first fault; none where memory failed
use Rattle.std.specs.Prelude.{ℕ, Option, Some, Result, Ok, Err, option_map}
use Rattle.poly_text.specs.Reasons.{Fault}
use Rattle.poly_text.specs.Faults.{fault_of}
use Rattle.poly_text.specs.declared.error.TextError.{TextError}
use Rattle.loops.specs.Program.{Program, Expr}
use Rattle.loop_model.specs.View.{program_of}
use Rattle.loop_model.specs.declared.loop_.Loop.{Loop}

abbrev pub loop_or_fault : Result Loop TextError → Option (Result (Program (Expr ℕ)) Fault)
loop_or_fault (Ok lp) = Some (Ok (program_of lp))
loop_or_fault (Err e) = option_map Err (fault_of e)
