use Rattle.loop_model.specs.ExpressionView.{expr_of}
use Rattle.program_model.proofs.Inverting.{side_left, side_right, side_is}
use Rattle.program_model.proofs.inverse.side.Goals as goal

pub returns-in_err-left : goal.returns-in_err-left
returns-in_err-left c m qs a h =
    let k = c.args.comparison.now in
    side_left m k.at c.args.state.now.items qs a h (expr_of k.left) (expr_of k.right)
    c.in_err-left.field-0.0 c.from_residual.result c.from_residual.ensures.1
    c.in_err-left.ensures.stops

pub returns-in_err-right : goal.returns-in_err-right
returns-in_err-right c m qs a h =
    let k = c.args.comparison.now in
    side_right m k.at c.args.state.now.items qs a h (expr_of k.left) (expr_of k.right)
    c.in_ok-left.left c.in_ok-left.ensures.value c.in_ok-left.ensures.free
    c.in_err-right.field-0.0 c.from_residual-in_err-right.result
    c.from_residual-in_err-right.ensures.1
    c.in_err-right.ensures.stops

pub returns : goal.returns
returns c m qs a h =
    let k = c.args.comparison.now in
    side_is m k.at c.args.state.now.items qs a h (expr_of k.left) (expr_of k.right)
    c.in_ok-left.left c.in_ok-left.ensures.value c.in_ok-left.ensures.free
    c.in_ok-right.right c.in_ok-right.ensures.value c.in_ok-right.ensures.free
    c.difference.result c.difference.ensures
