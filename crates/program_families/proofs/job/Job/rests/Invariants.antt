use Rattle.std.proofs.Common.{◌≡◌, List, [], drop}
use Rattle.machines.specs.Journal.{Entry}
use Rattle.poly.specs.Seen.{terms_each}
use Rattle.flows.specs.Tasks.{from_rests}
use Rattle.program_families.specs.Views.{job_of, arity_in, rests_of, HaveArity}
use Rattle.program_families.specs.Following.{ComesNext}
use Rattle.program_families.proofs.job.Job.rests.Given as goal

abbrev pub invariant-loop-monomial : goal.invariant-loop-monomial
invariant-loop-monomial l =
    let n = l.self.variables in
    let j = job_of l.self in
    let gs = terms_each l.basis.items in
    record {
      limit : l.meter.limit ≡ l.fn.meter.limit;
      over : HaveArity (arity_in l.self) l.rests.items;
      comes : (start : List Entry)
          → ComesNext n j start l.fn.meter.entries (from_rests n j gs [] j.monomials)
          → ComesNext n j start l.meter.entries
          (from_rests n j gs (rests_of l.rests.items) (drop l.monomial-index j.monomials));
    }
