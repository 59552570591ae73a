use Rattle.loop_model.proofs.Formed.{formed, limited}
use Rattle.loop_model.proofs.laws.loops_are_well_formed.Goals as goal

pub returns : goal.returns
returns c = record { formed = formed; limited = limited }
