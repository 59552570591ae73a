use Rattle.std.proofs.Common.{arith, length, ap, subst, sym, ◌∙◌}
use Rattle.std.proofs.lemmas.List.{length-map}
use Rattle.poly.specs.Seen.{terms_in, terms_each}
use Rattle.program_families.specs.Views.{job_of}
use Rattle.program_families.specs.Causes.{IfStops}
use Rattle.program_families.proofs.Completed.{completion_ends, completion_stops, basis_few}
use Rattle.program_families.proofs.job.Job.ideal.Goals as goal

pub returns-in-Ok-clause-few : goal.returns-in-Ok-clause-few
returns-in-Ok-clause-few c =
    let a = basis_few (terms_each c.deref.result.now) c.begin.new.self c.reduced_basis_in.new.meter
    _ c.in-Ok.basis (terms_each c.in-Ok.basis.items) (λ s g. g.list) c.in-Ok.ensures.ran in
    let b = length-map c.in-Ok.basis.items terms_in in
    let d = length-map c.deref.result.now terms_in in
    let e = ap length c.deref.ensures.value in
    let f = c.in_ok-generators.ensures.few in
    let u = c.within_limit.ensures.within in
    let v = c.within_limit.ensures.few in
    omega (arith, a, b, d, e, f, u, v)

pub returns-in-Ok-clause-takes : goal.returns-in-Ok-clause-takes
returns-in-Ok-clause-takes c = λ start h.
    completion_ends c.args.self.now.variables (job_of c.args.self.now)
    (terms_each c.deref.result.now)
    (ap terms_each c.deref.ensures.value ∙ c.in_ok-generators.ensures.terms) start
    c.args.meter.now c.begin.new.self c.reduced_basis_in.new.meter c.in_ok-begin.ensures.ok h _
    c.in-Ok.basis (terms_each c.in-Ok.basis.items) (λ s g. g.list) c.in-Ok.ensures.ran

pub returns-clause-takes : goal.returns-clause-takes
returns-clause-takes c = λ start h.
    subst (IfStops c.args.self.now.variables (job_of c.args.self.now) start
    c.reduced_basis_in.new.meter.entries c.reduced_basis_in.new.meter.limit)
    (sym c.in_ideal.ensures)
    (completion_stops c.args.self.now.variables (job_of c.args.self.now)
    (terms_each c.deref.result.now)
    (ap terms_each c.deref.ensures.value ∙ c.in_ok-generators.ensures.terms) start
    c.args.meter.now c.begin.new.self c.reduced_basis_in.new.meter c.in_ok-begin.ensures.ok h _
    c.in-Err.error c.in-Err.ensures.ran)
