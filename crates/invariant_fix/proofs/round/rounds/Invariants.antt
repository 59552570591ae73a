use Rattle.std.proofs.Common.{◌≡◌, ◌+◌, ◌-◌, ◌≤◌}
use Rattle.machines.specs.Journal.{units_of}
use Rattle.invariant_fix.specs.Steps.{Awaits, Knows, closing}
use Rattle.invariant_fix.proofs.round.rounds.Given as goal

abbrev pub invariant-loop-basis : goal.invariant-loop-basis
invariant-loop-basis l = record {
  limit : l.meter.limit ≡ l.initial.meter.limit;
  known : Knows l.setting l.meter l.basis.items;
  next : Awaits l.setting l.meter (closing l.setting l.round 0 0 l.basis.items);
  few : l.round ≤ units_of l.meter.entries;
}

abbrev pub decreases-loop-basis : goal.decreases-loop-basis
decreases-loop-basis l = l.meter.limit + 1 - units_of l.meter.entries
