use Rattle.std.proofs.Common.{◌≡◌, ◌≤◌, ◌+◌, ◌-◌, length, take}
use Rattle.std.specs.Vec.{vec_capacity}
use Rattle.poly.proofs.sums.copies.Given as goal

abbrev pub invariant-loop-term : goal.invariant-loop-term
invariant-loop-term g l = (l.out.items ≡ take l.term-index l.terms)
    × (length l.out.items + (length l.terms - l.term-index) ≤ vec_capacity l.out)
