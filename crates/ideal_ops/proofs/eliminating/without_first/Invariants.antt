use Rattle.std.proofs.Common.{◌≡◌, take}
use Rattle.machines.specs.Elimination.{free_part}
use Rattle.poly.specs.Seen.{terms_each}
use Rattle.ideal_ops.specs.Eliminating.{AreKept}
use Rattle.ideal_ops.proofs.eliminating.without_first.Given as goal

abbrev pub invariant-loop-g : goal.invariant-loop-g
invariant-loop-g g l =
    (terms_each l.list.items ≡ free_part l.first (terms_each (take l.g-index l.basis)))
    × AreKept l.rest l.list.items
