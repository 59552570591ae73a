use Rattle.std.proofs.Common.{◌≡◌, arith}
use Rattle.algebra.proofs.Lists.{have_more}
use Rattle.solvable.proofs.Using.{FracPoly}
use Rattle.expo.proofs.ImageLists.{variables_done}
use Rattle.closed_forms.proofs.StateLists.{variable_next, variable_arity}
use Rattle.closed_forms.proofs.states.variables.Goals as goal

pub loop-variable-preserved : goal.loop-variable-preserved
loop-variable-preserved c =
    let m = c.args.count in
    let i = c.loop-variable.variable in
    let p = c.in_ok-variable.field-0 in
    let is = c.in_ok-variable.ensures.variable in (
      variable_next _ m i c.loop-variable-test.true p is _ c.in_ok-push.ensures.items
          c.loop-variable.invariant.0,
      have_more (λ (p : FracPoly). p.arity ≡ m) _ _ p
          c.in_ok-push.ensures.items c.loop-variable.invariant.1
          (variable_arity _ m i c.loop-variable-test.true p is),
    )

pub returns-clause-terms : goal.returns-clause-terms
returns-clause-terms c = variables_done c.args.count c.loop-variable.variable _ _
    (let last = c.loop-variable.auto.variable-end in
    omega (arith, last, c.loop-variable-test.false)) c.loop-variable.invariant.0
