use Rattle.std.proofs.Common.{◌<◌, length, inr, arith}
use Rattle.std.proofs.lemmas.Result.{IfOk-weaker}
use Rattle.task_lists.proofs.Differences.{composed_stands, composed_collected, difference_stands, past_sum}
use Rattle.task_lists.proofs.graph.difference.Goals as goal

pub returns-clause-difference : goal.returns-clause-difference
returns-clause-difference c =
    let some : 0 < length c.args.images.now.items =
    (let a = c.requires.count in let b = c.requires.some in omega (arith, a, b)) in
    IfOk-weaker c.sub.result _ _ (λ p is. difference_stands c.in_ok-variable.variable p _ _
    c.in_ok-variable.ensures.terms c.in_ok-variable.ensures.arity (composed_stands _ _
    c.requires.images some c.args.form.now c.in_ok-image.ensures.composition) is)
    c.sub.ensures.difference

pub returns-clause-wide : goal.returns-clause-wide
returns-clause-wide c = λ w.
    let some : 0 < length c.args.images.now.items =
    (let a = c.requires.count in let b = c.requires.some in omega (arith, a, b)) in
    inr (past_sum c.in_ok-variable.variable c.in_ok-image.image _ _ c.in_ok-variable.ensures.terms
    (composed_collected _ _ c.requires.images some c.args.form.now
    c.in_ok-image.ensures.composition) (c.sub.ensures.wide w))
