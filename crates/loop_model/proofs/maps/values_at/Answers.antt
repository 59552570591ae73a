use Rattle.poly.specs.Seen.{terms_each, arity_of}
use Rattle.poly.specs.Standing.{}
use Rattle.loop_model.proofs.ValueLaws.{valued_none, valued_more, valued_stop, handed_on_all}
use Rattle.loop_model.proofs.maps.values_at.Goals as goal

pub loop-expr-init : goal.loop-expr-init
loop-expr-init c = valued_none (arity_of c.args.state.now.items) (terms_each c.args.state.now.items)
    c.args.exprs.now c.new-values.result.items c.new-values.ensures.items

pub loop-expr-preserved : goal.loop-expr-preserved
loop-expr-preserved c = valued_more (arity_of c.args.state.now.items)
    (terms_each c.args.state.now.items) c.args.exprs.now c.loop-expr.expr-index c.expr-item.result
    c.loop-expr-test.true c.expr-item.is
    c.loop-expr.values.items c.push.new.self.items c.in_ok-expr_poly.field-0 c.loop-expr.invariant
    c.in_ok-expr_poly.ensures.value c.in_ok-expr_poly.ensures.free c.in_ok-push.ensures.items

pub returns-in_err-expr_poly : goal.returns-in_err-expr_poly
returns-in_err-expr_poly c = handed_on_all _ _ _ c.in_err-expr_poly.field-0.0 c.from_residual.result
    c.from_residual.ensures.1
    (valued_stop (arity_of c.args.state.now.items) (terms_each c.args.state.now.items)
    c.args.exprs.now c.loop-expr.expr-index c.expr-item.result c.loop-expr-test.true
    c.expr-item.is
    c.loop-expr.values.items c.in_err-expr_poly.field-0.0 c.loop-expr.invariant
    c.in_err-expr_poly.ensures.stops)
