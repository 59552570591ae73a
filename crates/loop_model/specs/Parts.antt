-- What equations, statements and the parts of a loop are seen as.
--   equation_of, statement_of      an equation of init and a statement; at each operator its offset is noted
--   parts names locals start branches     these as a program
use Rattle.std.specs.Prelude.{ℕ, List, map}
use Rattle.std.specs.Global.{Vec}
use Rattle.loops.specs.Program as program
use Rattle.loop_model.specs.ExpressionView.{expr_of}
use Rattle.loop_model.specs.declared.statement.Init.{Init}
use Rattle.loop_model.specs.declared.statement.Statement.{Statement}

abbrev pub equation_of : Init → program.Equation (program.Expr ℕ)
equation_of i = record { name = i.var; value = expr_of i.value }

abbrev pub statement_of : Statement → program.Statement (program.Expr ℕ)
statement_of s = record { targets = s.targets.items; values = map expr_of s.values.items }

abbrev pub parts : List (List ℕ) → List (List ℕ) → List Init → List (Vec Statement)
    → program.Program (program.Expr ℕ)
parts names locals start branches = record {
  names = names;
  locals = locals;
  init = map equation_of start;
  branches = map (λ b. map statement_of b.items) branches;
}
