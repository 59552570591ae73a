use Rattle.std.proofs.Common.{◌∙◌}
use Rattle.std.proofs.lemmas.Result.{IfOk-weaker}
use Rattle.task_lists.proofs.Elements.{relation_later, positive}
use Rattle.task_lists.proofs.relations.relation_at.Goals as goal

pub returns-clause-relation : goal.returns-clause-relation
returns-clause-relation c =
    IfOk-weaker c.relation-2.result _ _ (λ p is. is ∙ relation_later c.args.numbers
    c.args.vars c.args.place (positive c.args.place c.if-place-eq0.false) c.requires.place)
    c.relation-2.ensures.relation
