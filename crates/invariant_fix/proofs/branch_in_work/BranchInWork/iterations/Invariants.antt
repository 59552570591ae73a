use Rattle.std.proofs.Common.{◌≡◌, ◌≤◌}
use Rattle.invariant_fix.specs.InWork.{IsInWork, Knows, KnowsIterations}
use Rattle.invariant_fix.specs.Steps.{Follow}
use Rattle.invariant_fix.proofs.Branching.{IsTaken}
use Rattle.invariant_fix.proofs.branch_in_work.BranchInWork.iterations.Given as goal

abbrev pub invariant-loop-taken : goal.invariant-loop-taken
invariant-loop-taken l = record {
  limit : l.meter.limit ≡ l.fn.meter.limit;
  from : 1 ≤ l.taken;
  at : IsInWork l.self l.meter;
  before : KnowsIterations l.self l.taken l.meter l.before.items;
  so_far : Knows l.self l.meter l.so_far.items;
  next : IsTaken l.self l.meter l.taken l.before.items l.so_far.items;
  units : Follow l.fn.meter l.meter;
}
