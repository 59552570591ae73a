use Rattle.corollaries.proofs.Budgets.{enough_budget}
use Rattle.corollaries.proofs.relation_laws.journals_are_beginnings_of_one.Goals as goal

pub returns : goal.returns
returns c s = enough_budget
