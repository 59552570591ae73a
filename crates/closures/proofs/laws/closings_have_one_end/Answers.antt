use Rattle.closures.proofs.Agrees.{ends_once, countered_no, agrees, closing_division}
use Rattle.closures.proofs.Budgets.{enough}
use Rattle.closures.proofs.laws.closings_have_one_end.Goals as goal

pub returns-clause-one : goal.returns-clause-one
returns-clause-one g c = λ program P es fs a b ea eb i j. ends_once program P es fs a b ea eb i j

pub returns-clause-enough : goal.returns-clause-enough
returns-clause-enough g c = λ program P es fs a n e i few out.
    enough program P es fs a n e i few out

pub returns-clause-refuted : goal.returns-clause-refuted
returns-clause-refuted g c = λ program w p hp es x q i. countered_no program w p hp es x q i

pub returns-clause-agrees : goal.returns-clause-agrees
returns-clause-agrees g c = λ program w p hp es fs k bs gs s x q a.
    agrees program w p hp es fs k bs gs s x q a

pub returns-clause-divisions : goal.returns-clause-divisions
returns-clause-divisions g c = λ program P ps es gs i b l q a k s to e.
    closing_division program P ps es gs i b l q a k s to e
