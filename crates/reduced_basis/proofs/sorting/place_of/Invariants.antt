use Rattle.std.proofs.Common.{◌≡◌, ◌++◌, take, drop}
use Rattle.machines.specs.Tidying.{put_by_lead}
use Rattle.poly.specs.Seen.{terms_in, terms_each}
use Rattle.reduced_basis.proofs.sorting.place_of.Given as goal

abbrev pub invariant-loop-place : goal.invariant-loop-place
invariant-loop-place g l =
    put_by_lead (g.O.Order.order l.order) (terms_in l.f) (terms_each l.list)
    ≡ terms_each (take l.place l.list) ++ put_by_lead (g.O.Order.order l.order) (terms_in l.f)
    (terms_each (drop l.place l.list))
