-- What the statements of the code are seen as.
--   statement_of s             a statement
--   block_behind b ss          the block b, and these statements behind it
--   block_of ss                the block of these statements
use Rattle.std.specs.Prelude.{ℕ, List, [], ◌∷◌, map}
use Rattle.loops.specs.Program.{Expr}
use Rattle.program_model.specs.Program as program
use Rattle.program_model.specs.SyntaxView.{comparison_of, step_of, guard_of}
use Rattle.program_model.specs.declared.statement.Statement.{Statement, fold-Statement}
use Rattle.program_model.specs.declared.statement.Statement.TheOpen.{Statement-F}

abbrev pub Syntax : Type 0
Syntax = program.Statement (Expr ℕ)

unfoldable pub block_behind : program.Block (Expr ℕ) → List Syntax → program.Block (Expr ℕ)
block_behind b [] = b
block_behind b (s ∷ ss) = block_behind (program.behind b s) ss

-- one level, where each statement inside is seen already
abbrev pub statement_step : Statement-F Syntax → Syntax
statement_step (Statement-F.Do c) = program.step (step_of c)
statement_step (Statement-F.Assert at k) = program.assert at (comparison_of k)
statement_step (Statement-F.If at g ss ts) =
    program.branch at (guard_of g) (block_behind program.empty ss.items)
    (block_behind program.empty ts.items)
statement_step (Statement-F.While at g ss) =
    program.loop at (guard_of g) (block_behind program.empty ss.items)

unfoldable pub statement_of : Statement → Syntax
statement_of s = fold-Statement Syntax statement_step s

abbrev pub block_of : List Statement → program.Block (Expr ℕ)
block_of ss = block_behind program.empty (map statement_of ss)
