use Rattle.std.proofs.Common.{rules}
use Rattle.eigen_split.proofs.Squares.{fits_rest, fits_product, fits_sum}
use Rattle.eigen_split.proofs.powers.+dot.Goals as goal

pub dot-requires : goal.dot-requires
dot-requires t c = (
  search rules,
  fits_rest
      c.in-Some-Some.ensures.cases.0 c.in-Some-Some.ensures'.cases.0 c.requires,
)

pub product_plus-requires-clause-product : goal.product_plus-requires-clause-product
product_plus-requires-clause-product t c =
    fits_product c.in-Some-Some.ensures.cases.0 c.in-Some-Some.ensures'.cases.0 c.requires

pub product_plus-requires-clause-sum : goal.product_plus-requires-clause-sum
product_plus-requires-clause-sum t c =
    fits_sum c.in-Some-Some.ensures.cases.0 c.in-Some-Some.ensures'.cases.0
    c.requires c.dot.result.value c.dot.ensures
