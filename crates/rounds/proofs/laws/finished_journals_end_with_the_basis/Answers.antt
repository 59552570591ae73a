use Rattle.rounds.proofs.Theorem.{finished_is, answered_is, answered_decides_all}
use Rattle.rounds.proofs.laws.finished_journals_end_with_the_basis.Goals as goal

pub returns : goal.returns
returns c s = record { round = finished_is; answered = answered_is; decides = answered_decides_all }
