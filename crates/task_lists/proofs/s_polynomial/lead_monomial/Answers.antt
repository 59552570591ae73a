use Rattle.task_lists.proofs.Raised.{lead_first}
use Rattle.task_lists.proofs.s_polynomial.lead_monomial.Goals as goal

pub returns : goal.returns
returns g c = lead_first _ _ c.in-Some.ensures.some
