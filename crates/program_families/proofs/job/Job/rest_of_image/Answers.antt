use Rattle.std.proofs.Common.{refl, sym, subst}
use Rattle.poly.specs.Seen.{terms_in, terms_each}
use Rattle.poly.proofs.Standing.{arities_over}
use Rattle.flows.specs.Entries.{Image}
use Rattle.flows.specs.Tasks.{imaging}
use Rattle.program_families.specs.Views.{job_of, arity_in, transition_in}
use Rattle.program_families.specs.Causes.{IfStops}
use Rattle.program_families.proofs.Composed.{image_terms}
use Rattle.program_families.proofs.Divided.{image_along}
use Rattle.program_families.proofs.Stopping.{image_limit, image_wide}
use Rattle.program_families.proofs.Tasks.{image_begins, image_ends, image_stops}
use Rattle.program_families.proofs.job.Job.rest_of_image.Goals as goal

pub returns-in-Err-Limit-clause-takes : goal.returns-in-Err-Limit-clause-takes
returns-in-Err-Limit-clause-takes c = λ start waiting h.
    image_limit c.args.self.now.variables (job_of c.args.self.now)
    (terms_each c.args.basis.now.items) start c.args.meter.now.entries c.args.meter.now.limit
    c.in-Err-Limit.field-0-0 c.in-Err-Limit.is _ c.args.element (terms_in c.args.polynomial.now)
    waiting h c.image_of.ensures c.in-Err-Limit.field-0-is

pub returns-in-Err-Wide-clause-takes : goal.returns-in-Err-Wide-clause-takes
returns-in-Err-Wide-clause-takes c = λ start waiting h.
    image_wide c.args.self.now.variables (job_of c.args.self.now)
    (terms_each c.args.basis.now.items) start c.args.meter.now.entries c.args.meter.now.limit
    c.in-Err-Wide.field-0-0 c.in-Err-Wide.is _ c.args.element (terms_in c.args.polynomial.now)
    waiting h c.image_of.ensures c.in-Err-Wide.field-0-is

pub returns-in-Ok-rest_of-clause-takes : goal.returns-in-Ok-rest_of-clause-takes
returns-in-Ok-rest_of-clause-takes c = λ start waiting h.
    let self = c.args.self.now in
    let n = self.variables in
    let j = job_of self in
    let gs = terms_each c.args.basis.now.items in
    let p = terms_in c.args.polynomial.now in
    image_ends n j gs start c.rest_of.new.meter.entries c.args.element waiting _
    (c.in-Ok-rest_of.ensures.divides n j (imaging gs c.args.element waiting)
    (image_along n j gs c.args.element waiting) start (Image self.place c.args.element) refl
    (image_begins n j gs start c.args.meter.now.entries c.args.element waiting p
    (terms_in c.in-Ok.image)
    (image_terms n (transition_in self) p (arities_over (arity_in self) _ c.requires.job.images)
    c.in-Ok.image c.in-Ok.ensures.0) h))

pub returns-clause-takes : goal.returns-clause-takes
returns-clause-takes c = λ start waiting h.
    let self = c.args.self.now in
    let n = self.variables in
    let j = job_of self in
    let gs = terms_each c.args.basis.now.items in
    let p = terms_in c.args.polynomial.now in
    subst (IfStops n j start c.rest_of.new.meter.entries c.rest_of.new.meter.limit)
    (sym c.in_image.ensures)
    (image_stops n j gs start c.rest_of.new.meter.entries c.args.element waiting
    c.rest_of.new.meter.limit c.in-Err.error
    (c.in-Err.ensures.divides n j (imaging gs c.args.element waiting)
    (image_along n j gs c.args.element waiting) start (Image self.place c.args.element) refl
    (image_begins n j gs start c.args.meter.now.entries c.args.element waiting p
    (terms_in c.in-Ok.image)
    (image_terms n (transition_in self) p (arities_over (arity_in self) _ c.requires.job.images)
    c.in-Ok.image c.in-Ok.ensures.0) h)))
