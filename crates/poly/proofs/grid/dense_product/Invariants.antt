use Rattle.std.proofs.Common.{map, take}
use Rattle.polynomials.specs.Terms.{times}
use Rattle.poly.specs.Grid.{Holds}
use Rattle.poly.specs.View.{terms_of}
use Rattle.poly.proofs.grid.dense_product.Given as goal

abbrev pub invariant-loop-term : goal.invariant-loop-term
invariant-loop-term g l =
    let k = g.K.Ring.meaning in
    Holds g.K.Ring.scalars.arithmetic l.base l.arity (map k l.grid.items)
    (times g.K.Ring.scalars.arithmetic (terms_of k (take l.term-index l.left))
    (terms_of k l.right))
