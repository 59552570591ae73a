use Rattle.monos.proofs.LaneSteps.{mask_is}
use Rattle.monos.proofs.lanes.lowest_bits.Goals as goal

pub returns : goal.returns
returns c = mask_is c.args.word c.args.bits c.requires
