use Rattle.std.proofs.Common.{sym, ◌∙◌}
use Rattle.task_lists.proofs.Sames.{equal_to}
use Rattle.task_lists.proofs.combination.is_combination.Goals as goal

pub returns-clause-holds : goal.returns-clause-holds
returns-clause-holds g c =
    let sum = c.in_ok-sum.ensures.sum in
    equal_to _ c.eq.result
    (c.eq.ensures.decides (sym (sum.order ∙ c.order.ensures))
    (sym (sum.arity ∙ c.arity.ensures.arity)))
    sum.same
