use Rattle.std.proofs.Common.{rules}
use Rattle.frac128.proofs.FracResults.{coprime_at}
use Rattle.frac128.proofs.fraction.Frac.coprime.Goals as goal

pub returns : goal.returns
returns c = coprime_at _ _ (search rules)
