use Rattle.loop_text.proofs.SeqLaws.{seqs_read}
use Rattle.loop_text.proofs.sequence_laws.sequences_are_read.Goals as goal

pub returns : goal.returns
returns c = seqs_read
