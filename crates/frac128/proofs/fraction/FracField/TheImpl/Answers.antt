-- What the quotient ensures of fractions is what `Field` asks.
use Rattle.std.proofs.Common.{rules}
use Rattle.frac128.proofs.FracResults.{quotient_means, quotient_past}
use Rattle.frac128.proofs.fraction.FracField.TheImpl.Goals as goal

pub div-tells : goal.div-tells
div-tells c = search (rules, quotient_means, quotient_past)
