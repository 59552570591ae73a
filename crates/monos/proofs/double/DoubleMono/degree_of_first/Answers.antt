use Rattle.std.proofs.Common.{refl, arith}
use Rattle.monos.proofs.Doubles.{front_degree}
use Rattle.monos.proofs.double.DoubleMono.degree_of_first.Goals as goal

pub returns-else-first-le16 : goal.returns-else-first-le16
returns-else-first-le16 c =
    let is = front_degree _ _ _ _ _ _ c.self.invariant.0 c.self.invariant.0
    c.self.view_is c.self.view_is refl c.args.first (omega (arith, c.if-first-le16.false)) in
    cc
