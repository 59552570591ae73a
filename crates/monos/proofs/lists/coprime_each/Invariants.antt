use Rattle.std.proofs.Common.{◌≡◌, ℕ, ◌<◌, min, slice_index}
use Rattle.monos.proofs.lists.coprime_each.Given as goal

abbrev pub invariant-loop-i : goal.invariant-loop-i
invariant-loop-i l = (k : ℕ) → k < l.i → min (slice_index l.left k) (slice_index l.right k) ≡ 0
