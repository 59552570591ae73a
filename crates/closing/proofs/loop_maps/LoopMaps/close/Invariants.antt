use Rattle.std.proofs.Common.{◌≡◌, ◌+◌, ◌-◌, [], length}
use Rattle.machines.specs.Journal.{units_of}
use Rattle.poly.specs.Seen.{terms_each}
use Rattle.closing.specs.LoopMaps.{program_in}
use Rattle.closing.specs.Progress.{Awaits, Fits}
use Rattle.closing.proofs.loop_maps.LoopMaps.close.Given as goal

abbrev pub invariant-loop-alloc : goal.invariant-loop-alloc
invariant-loop-alloc l =
    let program = program_in l.self in
    record {
      limit : l.meter.limit ≡ l.fn.meter.limit;
      fits : Fits (length program.names) (units_of l.meter.entries) l.progress;
      awaits : Awaits program (terms_each l.polynomials) l.meter.entries l.progress [];
    }

abbrev pub decreases-loop-alloc : goal.decreases-loop-alloc
decreases-loop-alloc l = l.meter.limit + 1 - units_of l.meter.entries
