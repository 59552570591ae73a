use Rattle.monos.proofs.Doubles.{lex_is}
use Rattle.monos.proofs.double.DoubleMono.compare_by_first.Goals as goal

pub returns : goal.returns
returns c = let is = lex_is _ _ _ _ _ _ c.self.invariant.0 c.other.invariant.0
    c.self.view_is c.other.view_is c.requires in cc
