-- What the operations ensure of fractions is what `Ring` asks.
use Rattle.std.proofs.Common.{rules}
use Rattle.frac128.proofs.FracResults.{sum_past, difference_past, product_past, unit_number, unit_inverse}
use Rattle.frac128.proofs.fraction.FracRing.TheImpl.Goals as goal

pub add-tells : goal.add-tells
add-tells c = search (rules, sum_past)

pub sub-tells : goal.sub-tells
sub-tells c = search (rules, difference_past)

pub mul-tells : goal.mul-tells
mul-tells c = search (rules, product_past)

pub unit-tells : goal.unit-tells
unit-tells c = record {
  number = unit_number c.result c.args.value c.ensures.number;
  inverse = unit_inverse c.result c.args.value _ c.ensures.number c.ensures.inverse c.ensures.none;
}
