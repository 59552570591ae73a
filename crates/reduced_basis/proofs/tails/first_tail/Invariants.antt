use Rattle.std.proofs.Common.{◌≡◌, drop}
use Rattle.algebra.specs.Scalars.{field}
use Rattle.machines.specs.Tidying.{tail_from}
use Rattle.poly.specs.Seen.{terms_each}
use Rattle.reduced_basis.proofs.tails.first_tail.Given as goal

abbrev pub invariant-loop-element : goal.invariant-loop-element
invariant-loop-element g l =
    tail_from (field g.K.Ring.scalars) (terms_each l.list) l.from (drop l.from (terms_each l.list))
    ≡ tail_from (field g.K.Ring.scalars) (terms_each l.list) l.element
    (drop l.element (terms_each l.list))
