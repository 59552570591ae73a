use Rattle.loop_text.proofs.WellFormed.{loop_well}
use Rattle.loop_text.proofs.laws.loops_are_within_limits.Goals as goal

pub returns : goal.returns
returns c = λ bytes l e. (loop_well bytes l e).limits
