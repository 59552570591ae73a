use Rattle.std.proofs.Common.{◌≡◌, ◌≤◌, ◌+◌, ◌++◌, length}
use Rattle.std.specs.Vec.{vec_capacity}
use Rattle.poly.proofs.sums.put_rest.Given as goal

abbrev pub invariant-loop-alloc : goal.invariant-loop-alloc
invariant-loop-alloc g l = (l.out.items ++ g.S.Source.items l.rest ≡ l.initial.out.items
    ++ g.S.Source.items l.initial.rest)
    × (vec_capacity l.out ≡ vec_capacity l.initial.out)
    × (length l.out.items + length (g.S.Source.items l.rest) ≤ vec_capacity l.out)

abbrev pub decreases-loop-alloc : goal.decreases-loop-alloc
decreases-loop-alloc g l = length (g.S.Source.items l.rest)
