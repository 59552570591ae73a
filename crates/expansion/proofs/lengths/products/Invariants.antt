use Rattle.std.proofs.Common.{◌≡◌, ◌≤◌}
use Rattle.expansion.specs.Counts.{most_terms}
use Rattle.expansion.specs.Lengths.{power_length}
use Rattle.expansion.proofs.lengths.products.Given as goal

abbrev pub invariant-loop-taken : goal.invariant-loop-taken
invariant-loop-taken l = (l.found ≡ power_length l.terms l.taken) × (l.found ≤ most_terms)
