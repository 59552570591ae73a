-- What a program of the code is seen as.
--   program_of p
use Rattle.std.specs.Prelude.{ℕ}
use Rattle.loops.specs.Program.{Expr}
use Rattle.program_model.specs.Program as program
use Rattle.program_model.specs.StatementView.{block_of}
use Rattle.program_model.specs.declared.program.Program.{Program}

abbrev pub program_of : Program → program.Program (Expr ℕ)
program_of p = record { names = p.names; statements = block_of p.statements.items; end = p.end }
