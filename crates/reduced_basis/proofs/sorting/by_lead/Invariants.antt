use Rattle.std.proofs.Common.{◌≡◌, length}
use Rattle.machines.specs.Tidying.{by_lead}
use Rattle.poly.specs.Seen.{terms_each}
use Rattle.divide.specs.Current.{AreDivisors}
use Rattle.reduced_basis.proofs.Ordered.{put_all}
use Rattle.reduced_basis.proofs.sorting.by_lead.Given as goal

abbrev pub invariant-loop-g : goal.invariant-loop-g
invariant-loop-g g l =
    AreDivisors l.order l.arity l.rest.items × AreDivisors l.order l.arity l.sorted.items
    × (by_lead (g.O.Order.order l.order) (terms_each l.fn.list.items)
    ≡ put_all (g.O.Order.order l.order) (terms_each l.rest.items) (terms_each l.sorted.items))

abbrev pub decreases-loop-g : goal.decreases-loop-g
decreases-loop-g g l = length l.rest.items
