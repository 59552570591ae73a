use Rattle.std.proofs.Common.{arith}
use Rattle.monos.proofs.Doubles.{front_lasts}
use Rattle.monos.proofs.double.DoubleMono.compare_first_from_last.Goals as goal

pub returns-else-first-le16 : goal.returns-else-first-le16
returns-else-first-le16 c =
    let is = front_lasts _ _ _ _ _ _ c.self.invariant.0 c.other.invariant.0
    c.self.view_is c.other.view_is c.requires.arity
    c.args.first (omega (arith, c.if-first-le16.false)) in
    cc
