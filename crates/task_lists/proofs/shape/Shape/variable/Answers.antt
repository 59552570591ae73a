use Rattle.std.proofs.lemmas.Result.{IfOk-weaker}
use Rattle.task_lists.proofs.Variables.{variable_of}
use Rattle.task_lists.proofs.shape.Shape.variable.Goals as goal

pub returns-clause-terms : goal.returns-clause-terms
returns-clause-terms c =
    IfOk-weaker c.variable.result _ _ (λ p is. (variable_of _ c.width.result c.args.place
    c.width.ensures c.requires.place p is).0) c.variable.ensures.variable
