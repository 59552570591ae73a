use Rattle.std.proofs.Common.{subst}
use Rattle.program_families.specs.Views.{job_of}
use Rattle.program_families.specs.Following.{ComesNext}
use Rattle.program_families.specs.Ends.{after_check}
use Rattle.program_families.specs.Shown.{ShowsCheck}
use Rattle.program_families.proofs.job.Job.task.Goals as goal

pub returns-clause-shows : goal.returns-clause-shows
returns-clause-shows c = λ d are.
    let self = c.args.self.now in
    let n = self.variables in
    let j = job_of self in
    let es = c.args.meter.now.entries in (
      subst (ShowsCheck self) c.in-Basis.is (c.in_ok-check.ensures.shows d are),
      c.in_ok-rests.ensures.rests d are es
          (subst (λ k. ComesNext n j es c.check.new.meter.entries (after_check n j k))
          c.in-Basis.is c.in_ok-check.ensures.takes),
    )
