use Rattle.std.proofs.Common.{◌≡◌, ◌≤◌, length, take}
use Rattle.flows.specs.Tasks.{rest_in}
use Rattle.program_families.specs.Views.{rests_of}
use Rattle.program_families.proofs.rests.rest_at.Given as goal

abbrev pub invariant-loop-count : goal.invariant-loop-count
invariant-loop-count l = record {
  within : l.count ≤ length l.rests;
  rest : rest_in (rests_of (take l.count l.rests)) l.monomial ≡ rest_in (rests_of l.rests)
      l.monomial;
}

abbrev pub decreases-loop-count : goal.decreases-loop-count
decreases-loop-count l = l.count
