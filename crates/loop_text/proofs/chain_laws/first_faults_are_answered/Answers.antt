use Rattle.loop_text.proofs.ChainLaws.{chain_fault}
use Rattle.loop_text.proofs.chain_laws.first_faults_are_answered.Goals as goal

pub returns : goal.returns
returns c = chain_fault
