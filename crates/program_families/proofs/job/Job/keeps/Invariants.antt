use Rattle.std.proofs.Common.{◌≡◌, List, drop}
use Rattle.machines.specs.Journal.{Entry}
use Rattle.poly.specs.Seen.{terms_each}
use Rattle.flows.specs.Tasks.{from_images}
use Rattle.program_families.specs.Views.{job_of}
use Rattle.program_families.specs.Following.{ComesNext}
use Rattle.program_families.proofs.job.Job.keeps.Given as goal

abbrev pub invariant-loop-element : goal.invariant-loop-element
invariant-loop-element l =
    let n = l.self.variables in
    let j = job_of l.self in
    let gs = terms_each l.basis.items in
    record {
      limit : l.meter.limit ≡ l.fn.meter.limit;
      comes : (start : List Entry)
          → ComesNext n j start l.fn.meter.entries
          (from_images n j gs 0 (terms_each l.elements.items))
          → ComesNext n j start l.meter.entries
          (from_images n j gs l.element (terms_each (drop l.element l.elements.items)));
    }
