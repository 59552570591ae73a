-- What a loop is seen as.
--   program_of lp    the program; at each operator its offset is noted
use Rattle.std.specs.Prelude.{ℕ}
use Rattle.loops.specs.Program.{Program, Expr}
use Rattle.loop_model.specs.Parts.{parts}
use Rattle.loop_model.specs.declared.loop_.Loop.{Loop}

abbrev pub program_of : Loop → Program (Expr ℕ)
program_of lp = parts lp.names lp.locals lp.start.items lp.branches.items
