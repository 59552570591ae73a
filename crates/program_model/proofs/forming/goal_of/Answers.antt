use Rattle.std.proofs.Common.{◌<◌, sym, subst}
use Rattle.algebra.specs.Fraction.{ℚ}
use Rattle.polynomials.specs.Terms.{variables}
use Rattle.loops.specs.WellFormed.{Uses}
use Rattle.loop_model.specs.ExpressionView.{expr_of}
use Rattle.program_model.specs.SyntaxView.{comparison_of}
use Rattle.program_model.proofs.Pointed.{state_over, state_arity, state_length, goal_formed}
use Rattle.program_model.proofs.forming.goal_of.Goals as goal

pub side-requires-clause-state : goal.side-requires-clause-state
side-requires-clause-state c =
    state_over c.args.variables c.in_ok-state.state.items c.in_ok-state.ensures.variables

pub side-requires-clause-left : goal.side-requires-clause-left
side-requires-clause-left c =
    subst (λ k. Uses (λ i. i < k) (expr_of c.args.comparison.now.left))
    (sym (state_length c.args.variables c.in_ok-state.state.items c.in_ok-state.ensures.variables))
    c.requires.comparison.left

pub side-requires-clause-right : goal.side-requires-clause-right
side-requires-clause-right c =
    subst (λ k. Uses (λ i. i < k) (expr_of c.args.comparison.now.right))
    (sym (state_length c.args.variables c.in_ok-state.state.items c.in_ok-state.ensures.variables))
    c.requires.comparison.right

pub returns : goal.returns
returns c =
    let n = c.args.variables in
    let h = c.in_ok-state.ensures.variables in
    goal_formed n (comparison_of c.args.comparison.now) c.side.result
    (c.side.ensures n (variables ℚ n) (state_arity n c.in_ok-state.state.items h) h)
