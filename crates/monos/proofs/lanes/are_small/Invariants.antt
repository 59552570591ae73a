use Rattle.std.proofs.Common.{ℕ, ◌<◌, slice_index}
use Rattle.monos.proofs.lanes.are_small.Given as goal

abbrev pub invariant-loop-exponent : goal.invariant-loop-exponent
invariant-loop-exponent l = (k : ℕ) → k < l.exponent-index → slice_index l.exponents k < l.bound
