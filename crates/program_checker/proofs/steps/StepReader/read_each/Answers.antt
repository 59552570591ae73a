use Rattle.std.proofs.Common.{subst, sym, rules}
use Rattle.cert_form.proofs.Each.{passed}
use Rattle.cert_form.specs.declared.fault.Path.{the_lemmas}
use Rattle.program_checker.specs.Fits.{IsStepFor}
use Rattle.program_checker.proofs.StepReads.{steps_more, steps_fault, fits_more}
use Rattle.program_checker.proofs.steps.StepReader.read_each.Goals as goal

pub loop-i-preserved : goal.loop-i-preserved
loop-i-preserved c = record {
  reads = steps_more _ _ c.args.list.now c.loop-i.i _ c.index-list-i.result c.loop-i.found
      c.loop-i-test.true c.index-list-i.is (search (rules, the_lemmas)) c.loop-i.invariant.reads
      c.in_ok-step.step
      c.push.new.self c.in_ok-step.ensures.reads c.in_ok-push.ensures.items;
  fits = fits_more (IsStepFor c.args.self.now.graph.now c.args.self.now.lists.now)
      c.loop-i.found.items c.push.new.self.items c.in_ok-step.step c.in_ok-push.ensures.items
      c.loop-i.invariant.fits (subst (λ j. IsStepFor c.args.self.now.graph.now
      c.args.self.now.lists.now j c.in_ok-step.step) (sym c.loop-i.invariant.reads.count)
      c.in_ok-step.ensures.fits);
}

pub returns-in_err-step-clause-reads : goal.returns-in_err-step-clause-reads
returns-in_err-step-clause-reads c = passed _ _ _ _ c.from_residual.ensures.1
    (steps_fault _ _ c.args.list.now c.loop-i.i _ c.index-list-i.result c.loop-i.found
    c.loop-i-test.true c.index-list-i.is (search (rules, the_lemmas)) c.loop-i.invariant.reads _
    c.in_err-step.ensures.reads)
