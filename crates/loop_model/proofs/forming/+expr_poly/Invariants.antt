use Rattle.std.proofs.Common.{◌+◌, ◌*◌, length}
use Rattle.loop_model.specs.ExpressionView.{expr_of, parts_of}
use Rattle.loop_model.proofs.ExprSize.{size_of}
use Rattle.loop_model.proofs.Spine.{Rising}
use Rattle.loop_model.proofs.forming.+expr_poly.Given as goal

abbrev pub decreases-part_poly : goal.decreases-part_poly
decreases-part_poly l = 2 * size_of (expr_of l.part.now)

abbrev pub decreases-expr_poly : goal.decreases-expr_poly
decreases-expr_poly l = 2 * size_of (expr_of l.expr.now) + 1

abbrev pub invariant-expr_poly-loop-part : goal.invariant-expr_poly-loop-part
invariant-expr_poly-loop-part l =
    Rising l.state.items (expr_of l.expr) (parts_of l.parts.items) l.poly

abbrev pub decreases-expr_poly-loop-part : goal.decreases-expr_poly-loop-part
decreases-expr_poly-loop-part l = length l.parts.items
