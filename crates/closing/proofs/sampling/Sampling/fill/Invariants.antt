use Rattle.std.proofs.Common.{◌≡◌, ◌+◌, ◌-◌, ◌≤◌, ℕ}
use Rattle.machines.specs.Journal.{units_of}
use Rattle.loop_model.specs.View.{program_of}
use Rattle.closing.specs.Sampling.{IsSampled}
use Rattle.closing.proofs.sampling.Sampling.fill.Given as goal

abbrev pub invariant-loop-alloc : goal.invariant-loop-alloc
invariant-loop-alloc l =
    let program = program_of l.lp in
    record {
      limit : l.meter.limit ≡ l.fn.meter.limit;
      units : units_of l.fn.meter.entries ≤ units_of l.meter.entries;
      some : (d : ℕ) × IsSampled program d l.meter.entries l.sampling;
      each : (d : ℕ) → IsSampled program d l.fn.meter.entries l.fn.self
          → IsSampled program d l.meter.entries l.sampling;
    }

abbrev pub decreases-loop-alloc : goal.decreases-loop-alloc
decreases-loop-alloc l = l.meter.limit + 1 - units_of l.meter.entries
