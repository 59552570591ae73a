use Rattle.std.proofs.Common.{◌≡◌, ◌++◌}
use Rattle.loop_model.specs.ExpressionView.{expr_of, parts_of}
use Rattle.loop_model.specs.Spine.{spine}
use Rattle.loop_model.proofs.ExprSize.{size_of}
use Rattle.loop_model.proofs.Spine.{below}
use Rattle.loop_model.proofs.expr.Expr.left_spine.Given as goal

abbrev pub invariant-loop-operand : goal.invariant-loop-operand
invariant-loop-operand l =
    spine (expr_of l.self) ≡ parts_of l.parts.items ++ below (expr_of l.part)

abbrev pub decreases-loop-operand : goal.decreases-loop-operand
decreases-loop-operand l = size_of (expr_of l.part)
