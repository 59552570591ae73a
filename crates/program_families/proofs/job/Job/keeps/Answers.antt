use Rattle.std.proofs.Common.{◌≢◌, ◌+◌, [], drop, ap, ◌∙◌}
use Rattle.std.proofs.lemmas.List.{drop_all}
use Rattle.std.proofs.lemmas.Result.{err_from_is_err_and}
use Rattle.poly.specs.Seen.{terms_in, terms_each}
use Rattle.loop_model.proofs.Items.{past_list}
use Rattle.program_families.specs.Views.{job_of}
use Rattle.program_families.proofs.Tasks.{next_item, rest_none, rest_some, images_none, images_along}
use Rattle.program_families.proofs.job.Job.keeps.Goals as goal

pub returns-in_err-rest-clause-takes : goal.returns-in_err-rest-clause-takes
returns-in_err-rest-clause-takes c = λ start h.
    let els = c.args.elements.now.items in
    let i = c.loop-element.element in
    let e = err_from_is_err_and c.from_residual-in_err-rest.result
    c.from_residual-in_err-rest.ensures.1 in
    rw (e.1, e.2)
    (c.in_err-rest.ensures.takes start (terms_each (drop (i + 1) els))
    (images_along c.args.self.now.variables (job_of c.args.self.now)
    (terms_each c.args.basis.now.items) start c.loop-element.meter.entries i _ _
    (ap terms_each (next_item els _ c.deref-polynomial-items.ensures.value i
    c.polynomial-item.result
    c.loop-element-test.true c.polynomial-item.is)) (c.loop-element.invariant.comes start h)))

pub returns-then-not-is_zero-clause-takes : goal.returns-then-not-is_zero-clause-takes
returns-then-not-is_zero-clause-takes c = λ start h.
    let els = c.args.elements.now.items in
    let i = c.loop-element.element in
    let n = c.args.self.now.variables in
    let j = job_of c.args.self.now in
    let gs = terms_each c.args.basis.now.items in
    let some : terms_in c.in_ok-rest.rest ≢ [] = λ z. let t = c.is_zero.ensures.1 z in
    let f = c.if-not-is_zero.true in cc in
    rest_some n j gs start c.rest_of_image.new.meter.entries i (terms_each (drop (i + 1) els))
    (terms_in c.in_ok-rest.rest) some
    (c.in_ok-rest.ensures.takes start (terms_each (drop (i + 1) els))
    (images_along n j gs start c.loop-element.meter.entries i _ _
    (ap terms_each (next_item els _ c.deref-polynomial-items.ensures.value i
    c.polynomial-item.result
    c.loop-element-test.true c.polynomial-item.is)) (c.loop-element.invariant.comes start h)))

pub loop-element-preserved : goal.loop-element-preserved
loop-element-preserved c =
    let els = c.args.elements.now.items in
    let i = c.loop-element.element in
    let n = c.args.self.now.variables in
    let j = job_of c.args.self.now in
    let gs = terms_each c.args.basis.now.items in
    record {
      limit = c.rest_of_image.ensures.limit ∙ c.loop-element.invariant.limit;
      comes = λ start h.
          rest_none n j gs start c.rest_of_image.new.meter.entries i
          (terms_each (drop (i + 1) els)) (terms_in c.in_ok-rest.rest)
          (c.is_zero.ensures.0 c.if-not-is_zero.false)
          (c.in_ok-rest.ensures.takes start (terms_each (drop (i + 1) els))
          (images_along n j gs start c.loop-element.meter.entries i _ _
          (ap terms_each (next_item els _ c.deref-polynomial-items.ensures.value i
          c.polynomial-item.result c.loop-element-test.true c.polynomial-item.is))
          (c.loop-element.invariant.comes start h)));
    }

pub returns-clause-takes : goal.returns-clause-takes
returns-clause-takes c = λ start h.
    let els = c.args.elements.now.items in
    let i = c.loop-element.element in
    images_none c.args.self.now.variables (job_of c.args.self.now)
    (terms_each c.args.basis.now.items) start c.loop-element.meter.entries i
    (terms_each (drop i els))
    (ap terms_each (drop_all i els (past_list els _ c.deref-polynomial-items.ensures.value i
    c.loop-element-test.false))) (c.loop-element.invariant.comes start h)
