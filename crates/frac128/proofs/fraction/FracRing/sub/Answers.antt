use Rattle.std.proofs.Common.{subst, sym}
use Rattle.frac128.specs.FracMeaning.{fraction_of}
use Rattle.frac128.specs.Sums.{SumIsPast}
use Rattle.frac128.proofs.fraction.FracRing.sub.Goals as goal

pub returns-clause-wide : goal.returns-clause-wide
returns-clause-wide c = (
  (λ w. subst (SumIsPast (fraction_of c.args.self.now)) c.neg.ensures
      (c.add.ensures.wide.0 w)),
  (λ p. c.add.ensures.wide.1 (subst (SumIsPast (fraction_of c.args.self.now))
      (sym c.neg.ensures) p)),
)
