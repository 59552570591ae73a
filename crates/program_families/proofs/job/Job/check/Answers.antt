use Rattle.std.proofs.Common.{◌≡◌, ◌<◌, [], length, Some, option_map, ap, subst, ◌∙◌, arith}
use Rattle.flows.specs.Tasks.{from_images, from_rests}
use Rattle.program_families.specs.Following.{ComesNext}
use Rattle.program_families.specs.Ends.{kept_or}
use Rattle.std.proofs.lemmas.Bool.Decides.{nat_tests}
use Rattle.std.proofs.lemmas.List.{nil_from_length}
use Rattle.std.proofs.lemmas.Result.{err_from_is_err_and}
use Rattle.poly.specs.Seen.{terms_each}
use Rattle.program_families.specs.Views.{job_of}
use Rattle.program_families.proofs.Fronts.{some_terms}
use Rattle.program_families.proofs.Shown.{shown_kept}
use Rattle.program_families.proofs.Tasks.{target_none, target_some, begins_kept, begins_none, begins_some}
use Rattle.program_families.proofs.job.Job.check.Goals as goal
use Rattle.program_families.proofs.job.Job.check.Goals.{In_ok-basis}

pub returns-in_err-ideal-clause-takes : goal.returns-in_err-ideal-clause-takes
returns-in_err-ideal-clause-takes c =
    let e = err_from_is_err_and c.from_residual.result c.from_residual.ensures.1 in
    rw (e.1, e.2)
    (c.in_err-ideal.ensures.takes c.args.meter.now.entries
    (begins_none c.args.self.now.variables (job_of c.args.self.now) c.args.meter.now.entries
    (ap (option_map _) c.in_default.is)))

pub returns-in_default-clause-takes : goal.returns-in_default-clause-takes
returns-in_default-clause-takes c =
    let n = c.args.self.now.variables in
    let j = job_of c.args.self.now in
    target_none n j _ c.args.meter.now.entries c.ideal.new.meter.entries
    (ap (option_map _) c.in_default.is)
    (c.in_ok-ideal.ensures.takes c.args.meter.now.entries
    (begins_none n j c.args.meter.now.entries (ap (option_map _) c.in_default.is)))

pub returns-then-is_empty-clause-takes : goal.returns-then-is_empty-clause-takes
returns-then-is_empty-clause-takes c =
    let none : length c.in-Some.elements.now.items ≡ 0 =
    grind (arith, nat_tests, c.is_empty.ensures, c.if-is_empty.true) in
    begins_kept c.args.self.now.variables (job_of c.args.self.now) c.args.meter.now.entries
    (ap (option_map _) c.in-Some.is
    ∙ ap (λ gs. Some (terms_each gs)) (nil_from_length _ none))

pub returns-in_err-basis-clause-takes : goal.returns-in_err-basis-clause-takes
returns-in_err-basis-clause-takes c =
    let e = err_from_is_err_and c.from_residual-in_err-basis.result
    c.from_residual-in_err-basis.ensures.1 in
    let some : 0 < length c.in-Some.elements.now.items =
    grind (arith, nat_tests, c.is_empty.ensures, c.if-is_empty.false) in
    rw (e.1, e.2)
    (c.in_err-basis.ensures.takes c.args.meter.now.entries
    (begins_some c.args.self.now.variables (job_of c.args.self.now) c.args.meter.now.entries
    (terms_each c.in-Some.elements.now.items) (ap (option_map _) c.in-Some.is)
    (some_terms c.in-Some.elements.now.items some)))

-- the images come next
comes : (c : In_ok-basis) → ComesNext c.args.self.now.variables (job_of c.args.self.now)
    c.args.meter.now.entries c.ideal-2.new.meter.entries
    (from_images c.args.self.now.variables (job_of c.args.self.now)
    (terms_each c.in_ok-basis.basis.items) 0 (terms_each c.in-Some.elements.now.items))
comes c =
    let n = c.args.self.now.variables in
    let j = job_of c.args.self.now in
    let es = c.args.meter.now.entries in
    let hs = terms_each c.in-Some.elements.now.items in
    let some : 0 < length c.in-Some.elements.now.items =
    grind (arith, nat_tests, c.is_empty.ensures, c.if-is_empty.false) in
    target_some n j (terms_each c.in_ok-basis.basis.items) es c.ideal-2.new.meter.entries hs
    (ap (option_map _) c.in-Some.is)
    (c.in_ok-basis.ensures.takes es (begins_some n j es hs (ap (option_map _) c.in-Some.is)
    (some_terms c.in-Some.elements.now.items some)))

pub returns-in_err-keeps-clause-takes : goal.returns-in_err-keeps-clause-takes
returns-in_err-keeps-clause-takes c =
    let e = err_from_is_err_and c.from_residual-in_err-keeps.result
    c.from_residual-in_err-keeps.ensures.1 in
    rw (e.1, e.2)
    (c.in_err-keeps.ensures.takes c.args.meter.now.entries
    (comes (goal.at.returns-in_err-keeps-clause-takes c).In_ok-basis))

pub returns-then-branch-clause-takes : goal.returns-then-branch-clause-takes
returns-then-branch-clause-takes c =
    let n = c.args.self.now.variables in
    let j = job_of c.args.self.now in
    subst (λ b. ComesNext n j c.args.meter.now.entries c.keeps.new.meter.entries
    (kept_or (from_rests n j (terms_each c.in_ok-basis.basis.items) [] j.monomials) b))
    c.if-branch.true
    (c.in_ok-keeps.ensures.takes c.args.meter.now.entries
    (comes (goal.at.returns-then-branch-clause-takes c).In_ok-basis))

pub returns-clause-takes : goal.returns-clause-takes
returns-clause-takes c =
    let n = c.args.self.now.variables in
    let j = job_of c.args.self.now in
    subst (λ b. ComesNext n j c.args.meter.now.entries c.keeps.new.meter.entries
    (kept_or (from_rests n j (terms_each c.in_ok-basis.basis.items) [] j.monomials) b))
    c.if-branch.false
    (c.in_ok-keeps.ensures.takes c.args.meter.now.entries
    (comes (goal.at.returns-clause-takes c).In_ok-basis))

pub returns-then-is_empty-clause-shows : goal.returns-then-is_empty-clause-shows
returns-then-is_empty-clause-shows c = λ d are.
    shown_kept c.args.self.now c.requires d are c.args.meter.now.entries c.args.meter.now.entries
    (returns-then-is_empty-clause-takes c)

pub returns-then-branch-clause-shows : goal.returns-then-branch-clause-shows
returns-then-branch-clause-shows c = λ d are.
    shown_kept c.args.self.now c.requires d are c.args.meter.now.entries
    c.keeps.new.meter.entries (returns-then-branch-clause-takes c)
