use Rattle.std.proofs.Common.{◌≡◌, ◌≤◌, ◌<◌}
use Rattle.machines.specs.Journal.{units_of}
use Rattle.invariant_fix.specs.Steps.{Knows}
use Rattle.invariant_fix.proofs.Branching.{ComesAt}
use Rattle.invariant_fix.proofs.round.next_basis.Given as goal

abbrev pub invariant-loop-place : goal.invariant-loop-place
invariant-loop-place l = record {
  limit : l.meter.limit ≡ l.fn.meter.limit;
  from : 1 ≤ l.place;
  known : Knows l.setting l.meter l.basis;
  so_far : Knows l.setting l.meter l.so_far.items;
  next : ComesAt l.setting l.round l.basis l.meter.entries l.place l.so_far.items;
  units : units_of l.fn.meter.entries < units_of l.meter.entries;
}
