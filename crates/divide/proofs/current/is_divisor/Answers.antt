use Rattle.machines.proofs.DividesTest.{divides_is}
use Rattle.divide.proofs.current.is_divisor.Goals as goal

pub returns : goal.returns
returns c = divides_is c.divides.result _ _ c.requires c.divides.ensures
