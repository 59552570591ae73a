use Rattle.std.proofs.Common.{◌≡◌, ◌<◌, length, sym, subst}
use Rattle.loops.specs.WellFormed.{Uses}
use Rattle.loop_model.specs.ExpressionView.{expr_of}
use Rattle.loop_model.proofs.StateLaws.{formed_at}
use Rattle.loop_model.proofs.Variables.{made_stand, made_length, made_arity, made_over}
use Rattle.poly_text.specs.Equations.{free_state}
use Rattle.poly_text.proofs.equation.poly_of.Goals as goal

pub expr_poly-requires-clause-state : goal.expr_poly-requires-clause-state
expr_poly-requires-clause-state c = made_over _ _ c.len.ensures.len c.in_ok-state.state.items
    c.in_ok-state.ensures.variables

pub expr_poly-requires-clause-uses : goal.expr_poly-requires-clause-uses
expr_poly-requires-clause-uses c =
    let long : length c.in_ok-state.state.items ≡ length c.args.names.now =
    made_length _ _ c.len.ensures.len c.in_ok-state.state.items
    c.in_ok-state.ensures.variables in
    subst (λ n. Uses (λ i. i < n) (expr_of c.args.expr.now)) (sym long) c.requires

pub returns : goal.returns
returns c =
    let m = length c.args.names.now in
    let ps = c.in_ok-state.state.items in
    let made = c.in_ok-state.ensures.variables in
    formed_at m ps (free_state m) (made_stand _ m c.len.ensures.len ps made)
    (made_arity _ m c.len.ensures.len ps made) (expr_of c.args.expr.now) c.expr_poly.result
    c.expr_poly.ensures.value c.expr_poly.ensures.free c.expr_poly.ensures.stops
