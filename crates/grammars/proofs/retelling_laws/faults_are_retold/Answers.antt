use Rattle.grammars.proofs.Retelling.{retold_read}
use Rattle.grammars.proofs.retelling_laws.faults_are_retold.Goals as goal

pub returns : goal.returns
returns c _ = retold_read
