use Rattle.loop_text.proofs.SeqLaws.{seqs_fault}
use Rattle.loop_text.proofs.sequence_laws.first_faults_are_answered.Goals as goal

pub returns : goal.returns
returns c = seqs_fault
