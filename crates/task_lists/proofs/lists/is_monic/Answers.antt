use Rattle.std.proofs.Common.{refl}
use Rattle.task_lists.proofs.Monic.{one_tells, none_tells}
use Rattle.task_lists.proofs.lists.is_monic.Goals as goal

pub returns-in-Some : goal.returns-in-Some
returns-in-Some g c =
    one_tells _ _ c.in-Some.lead.now.coef c.one.result
    c.in-Some.ensures.some c.one.ensures c.eq.result c.eq.ensures

pub returns-in-None : goal.returns-in-None
returns-in-None g c = none_tells (c.in-None.ensures.none.0 refl)
