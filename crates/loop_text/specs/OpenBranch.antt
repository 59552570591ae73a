-- A branch that is open, as a state of the grammar's reader.
--   within o n b               behind the statements of the open branch o, where so many began
--   behind_statement o is es n b     and behind one more, with these targets and right sides
use Rattle.std.specs.Prelude.{ℕ, List, [], ◌∷◌, ◌++◌, map}
use Rattle.loops.specs.WellFormed.{still_unset}
use Rattle.loop_model.specs.declared.expr.Expr as code
use Rattle.loop_model.specs.ExpressionView.{expr_of}
use Rattle.loop_model.specs.Parts.{statement_of}
use Rattle.loop_text.specs.declared.begun.Begun.{Begun}
use Rattle.loop_text.specs.declared.statements.OpenBranch.{OpenBranch}
use Rattle.loop_text.specs.Loops.{LoopState}
use Rattle.loop_text.specs.States.{Before, behind, between}

abbrev pub within : OpenBranch → Begun → Before → LoopState
within o n b = between o.names.now o.unset.items n (behind b (map statement_of o.statements.items))

abbrev pub behind_statement : OpenBranch → List ℕ → List code.Expr → Begun → Before → LoopState
behind_statement o is es n b =
    between o.names.now (still_unset is o.unset.items) n
    (behind b (map statement_of o.statements.items
    ++ record { targets = is; values = map expr_of es } ∷ []))
