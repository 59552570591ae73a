use Rattle.algebra.proofs.Wholes.{whole_injective, sum-whole, product-whole, opposite-whole, order-whole}
use Rattle.algebra.proofs.number_laws.whole_numbers_are_fractions.Goals as goal

pub returns : goal.returns
returns c = record {
  decides = whole_injective;
  sum = sum-whole;
  product = product-whole;
  opposite = opposite-whole;
  order = order-whole;
}
