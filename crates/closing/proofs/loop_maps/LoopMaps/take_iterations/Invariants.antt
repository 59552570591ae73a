use Rattle.std.proofs.Common.{◌≡◌, ◌+◌, ◌≤◌, ◌++◌, List, map, drop, length}
use Rattle.algebra.specs.Fraction.{Fraction}
use Rattle.polynomials.specs.Terms.{Terms}
use Rattle.machines.specs.Journal.{units_of}
use Rattle.closures.specs.Closing as seen
use Rattle.closures.specs.Closing.{turned}
use Rattle.closing.specs.LoopMaps.{program_in}
use Rattle.closing.specs.Progress.{candidates_of, Awaits, Fits, Grows}
use Rattle.closing.proofs.loop_maps.LoopMaps.take_iterations.Given as goal

abbrev pub invariant-loop-from : goal.invariant-loop-from
invariant-loop-from l =
    let program = program_in l.self in
    record {
      limit : l.meter.limit ≡ l.fn.meter.limit;
      fits : Fits (length program.names) (units_of l.meter.entries) l.progress;
      grows : Grows l.fn.meter.entries l.meter.entries;
      units : units_of l.fn.meter.entries + l.from-index ≤ units_of l.meter.entries;
      awaits : (P : List (Terms Fraction)) (waiting : List seen.Candidate)
          → Awaits program P l.fn.meter.entries l.fn.progress
          (map (turned program l.letter) (candidates_of P l.level.items) ++ waiting)
          → Awaits program P l.meter.entries l.progress
          (map (turned program l.letter) (candidates_of P (drop l.from-index l.level.items))
          ++ waiting);
    }
