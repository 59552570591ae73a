use Rattle.std.proofs.Common.{◌≡◌, map, drop, length}
use Rattle.machines.specs.Journal.{units_of}
use Rattle.poly.specs.Seen.{terms_each}
use Rattle.closures.specs.Closing.{first_candidate}
use Rattle.closing.specs.LoopMaps.{program_in}
use Rattle.closing.specs.Progress.{Awaits, Fits}
use Rattle.closing.proofs.loop_maps.LoopMaps.first_level.Given as goal

abbrev pub invariant-loop-of : goal.invariant-loop-of
invariant-loop-of l =
    let program = program_in l.self in
    record {
      limit : l.meter.limit ≡ l.fn.meter.limit;
      fits : Fits (length program.names) (units_of l.meter.entries) l.progress;
      awaits : Awaits program (terms_each l.polynomials) l.meter.entries l.progress
          (map first_candidate (drop l.of (terms_each l.polynomials)));
    }
