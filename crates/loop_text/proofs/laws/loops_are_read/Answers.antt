use Rattle.loop_text.proofs.LoopLaws.{loop_read}
use Rattle.loop_text.proofs.laws.loops_are_read.Goals as goal

pub returns : goal.returns
returns c = loop_read
