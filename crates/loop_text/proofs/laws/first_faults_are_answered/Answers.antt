use Rattle.loop_text.proofs.LoopLaws.{loop_fault}
use Rattle.loop_text.proofs.laws.first_faults_are_answered.Goals as goal

pub returns : goal.returns
returns c = loop_fault
