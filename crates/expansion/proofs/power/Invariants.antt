use Rattle.std.proofs.Common.{◌≡◌, ◌≤◌, ◌^◌}
use Rattle.expansion.specs.Counts.{most_terms}
use Rattle.expansion.proofs.power.Given as goal

abbrev pub invariant-loop : goal.invariant-loop
invariant-loop l = (l.found ≡ l.by ^ l.counter) × (l.found ≤ most_terms)
