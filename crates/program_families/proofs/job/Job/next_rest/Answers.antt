use Rattle.std.proofs.Common.{refl, sym, subst, ◌∙◌}
use Rattle.poly.specs.Seen.{terms_in, terms_each}
use Rattle.poly.proofs.Standing.{arities_over}
use Rattle.flows.specs.Entries.{Rest}
use Rattle.flows.specs.Tasks.{resting}
use Rattle.program_families.specs.Views.{job_of, arity_in, rests_of}
use Rattle.program_families.specs.Causes.{IfStops}
use Rattle.program_families.proofs.Divided.{rest_along}
use Rattle.program_families.proofs.Products.{product_terms, rests_arity}
use Rattle.program_families.proofs.Stopping.{rest_limit, rest_wide}
use Rattle.program_families.proofs.Tasks.{rest_begins, rest_ends, rest_stops}
use Rattle.program_families.proofs.job.Job.next_rest.Goals as goal

pub returns-in-Err-Limit-clause-takes : goal.returns-in-Err-Limit-clause-takes
returns-in-Err-Limit-clause-takes c = λ start waiting h.
    rest_limit c.args.self.now.variables (job_of c.args.self.now)
    (terms_each c.args.basis.now.items) start c.args.meter.now.entries c.args.meter.now.limit
    c.in-Err-Limit.field-0-0 c.in-Err-Limit.is _ (rests_of c.args.rests.now) c.args.monomial
    waiting h c.product.ensures c.in-Err-Limit.field-0-is

pub returns-in-Err-Wide-clause-takes : goal.returns-in-Err-Wide-clause-takes
returns-in-Err-Wide-clause-takes c = λ start waiting h.
    rest_wide c.args.self.now.variables (job_of c.args.self.now)
    (terms_each c.args.basis.now.items) start c.args.meter.now.entries c.args.meter.now.limit
    c.in-Err-Wide.field-0-0 c.in-Err-Wide.is _ (rests_of c.args.rests.now) c.args.monomial
    waiting h c.product.ensures c.in-Err-Wide.field-0-is

pub returns-in-Ok-rest_of-clause-arity : goal.returns-in-Ok-rest_of-clause-arity
returns-in-Ok-rest_of-clause-arity c = c.in-Ok-rest_of.ensures.arity ∙ c.in-Ok.ensures.0.arity

pub returns-in-Ok-rest_of-clause-takes : goal.returns-in-Ok-rest_of-clause-takes
returns-in-Ok-rest_of-clause-takes c = λ start waiting h.
    let self = c.args.self.now in
    let n = self.variables in
    let j = job_of self in
    let gs = terms_each c.args.basis.now.items in
    let rs = rests_of c.args.rests.now in
    let m = c.args.monomial in
    rest_ends n j gs start c.rest_of.new.meter.entries rs m waiting _
    (c.in-Ok-rest_of.ensures.divides n j (resting gs rs m waiting)
    (rest_along n j gs rs m waiting) start (Rest self.place m) refl
    (rest_begins n j gs start c.args.meter.now.entries rs m waiting (terms_in c.in-Ok.product)
    (product_terms n j (arities_over (arity_in self) _ c.requires.job.images) rs
    (rests_arity (arity_in self) c.args.rests.now c.requires.over) m c.in-Ok.product
    c.in-Ok.ensures.0) h))

pub returns-clause-takes : goal.returns-clause-takes
returns-clause-takes c = λ start waiting h.
    let self = c.args.self.now in
    let n = self.variables in
    let j = job_of self in
    let gs = terms_each c.args.basis.now.items in
    let rs = rests_of c.args.rests.now in
    let m = c.args.monomial in
    subst (IfStops n j start c.rest_of.new.meter.entries c.rest_of.new.meter.limit)
    (sym c.in_rest.ensures)
    (rest_stops n j gs start c.rest_of.new.meter.entries rs m waiting c.rest_of.new.meter.limit
    c.in-Err.error
    (c.in-Err.ensures.divides n j (resting gs rs m waiting) (rest_along n j gs rs m waiting) start
    (Rest self.place m) refl
    (rest_begins n j gs start c.args.meter.now.entries rs m waiting (terms_in c.in-Ok.product)
    (product_terms n j (arities_over (arity_in self) _ c.requires.job.images) rs
    (rests_arity (arity_in self) c.args.rests.now c.requires.over) m c.in-Ok.product
    c.in-Ok.ensures.0) h)))
