use Rattle.algebra.proofs.Fractions.{fractions_ring, fractions_field, fractions_ordered, zero_is}
use Rattle.algebra.proofs.SizeLaws.{fractions_bounded}
use Rattle.algebra.proofs.ProductSizes.{fraction_quotients_bounded}
use Rattle.algebra.proofs.number_laws.fractions_are_an_ordered_field.Goals as goal

pub returns : goal.returns
returns c = record {
  ring = fractions_ring;
  field = fractions_field;
  zero = zero_is;
  order = fractions_ordered;
  bounded = fractions_bounded;
  quotients = fraction_quotients_bounded;
}
