use Rattle.std.proofs.Common.{◌≡◌, ◌≢◌, ◌+◌, ◌-◌, ◌≤◌, [], List, suc, length}
use Rattle.algebra.specs.Fraction.{Fraction}
use Rattle.polynomials.specs.Terms.{Terms}
use Rattle.machines.specs.Journal.{units_of}
use Rattle.closures.specs.Closing.{level_from}
use Rattle.closing.specs.LoopMaps.{program_in}
use Rattle.closing.specs.Progress.{candidates_of, Awaits, Fits, Grows}
use Rattle.closing.proofs.loop_maps.LoopMaps.next_level.Given as goal

abbrev pub invariant-loop-index : goal.invariant-loop-index
invariant-loop-index l =
    let program = program_in l.self in
    record {
      limit : l.meter.limit ≡ l.fn.meter.limit;
      fits : Fits (length program.names) (units_of l.meter.entries) l.progress;
      grows : Grows l.fn.meter.entries l.meter.entries;
      later : units_of l.fn.meter.entries ≤ units_of l.meter.entries;
      units : l.level.items ≢ []
          → units_of l.fn.meter.entries + l.index ≤ units_of l.meter.entries;
      awaits : (P : List (Terms Fraction)) → Awaits program P l.fn.meter.entries l.fn.last []
          → Awaits program P l.meter.entries l.progress
          (level_from program (suc l.index) (length program.branches - l.index)
          (candidates_of P l.level.items));
    }
