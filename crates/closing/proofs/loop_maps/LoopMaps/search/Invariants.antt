use Rattle.std.proofs.Common.{◌≡◌, ◌+◌, ◌-◌}
use Rattle.machines.specs.Journal.{units_of}
use Rattle.closing.specs.LoopMaps.{program_in}
use Rattle.closing.specs.Sampling.{IsSampled}
use Rattle.closing.proofs.loop_maps.LoopMaps.search.Given as goal

abbrev pub invariant-loop-sampling : goal.invariant-loop-sampling
invariant-loop-sampling l =
    let program = program_in l.self in
    record {
      limit : l.meter.limit ≡ l.fn.meter.limit;
      sampled : IsSampled program l.degree l.meter.entries l.sampling;
    }

abbrev pub decreases-loop-sampling : goal.decreases-loop-sampling
decreases-loop-sampling l = l.meter.limit + 1 - units_of l.meter.entries
