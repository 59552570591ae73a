use Rattle.std.proofs.Common.{◌≡◌, map, take}
use Rattle.algebra.specs.Scalars.{field}
use Rattle.machines.specs.Cut.{monic}
use Rattle.poly.specs.Seen.{terms_each}
use Rattle.divide.specs.Current.{AreDivisors}
use Rattle.reduced_basis.proofs.tidying.all_monic.Given as goal

abbrev pub invariant-loop-g : goal.invariant-loop-g
invariant-loop-g g l = (terms_each l.out.items ≡ map (monic (field g.K.Ring.scalars))
    (terms_each (take l.g-index l.list))) × AreDivisors l.fn.order l.arity l.out.items
