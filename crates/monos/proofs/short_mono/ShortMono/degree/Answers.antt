use Rattle.std.proofs.Common.{arith}
use Rattle.monos.proofs.ShortWords.{degree_fits}
use Rattle.monos.proofs.short_mono.ShortMono.degree.Goals as goal

pub returns-clause-small : goal.returns-clause-small
returns-clause-small c =
    let fits = degree_fits _ _ _ c.self.invariant in
    omega (arith, fits)
