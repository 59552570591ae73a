use Rattle.monos.proofs.Doubles.{grevlex_is}
use Rattle.monos.proofs.double.DoubleMono.compare.Goals as goal

pub returns : goal.returns
returns c = let is = grevlex_is _ _ _ _ _ _ c.self.invariant.0 c.other.invariant.0
    c.self.view_is c.other.view_is c.requires in cc
