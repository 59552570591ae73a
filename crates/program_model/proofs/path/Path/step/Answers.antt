use Rattle.std.proofs.Common.{◌++◌, ◌∷◌, [], sym, subst}
use Rattle.program_model.specs.Code.{step_code}
use Rattle.program_model.specs.WellFormed.{IsStep}
use Rattle.program_model.specs.Events.{Makes}
use Rattle.program_model.specs.PathEvents.{step_events}
use Rattle.program_model.specs.UnderWay.{IsUnderWay}
use Rattle.program_model.proofs.StepViews.{step_of-assign, step_of-any, step_of-assume}
use Rattle.program_model.proofs.path.Path.step.Goals as goal

pub assign-requires-clause-assignment : goal.assign-requires-clause-assignment
unfolding IsStep
assign-requires-clause-assignment c =
    subst (IsStep c.args.self.variables)
    (step_of-assign c.args.step.now c.in-Assign.assignment c.in-Assign.is) c.requires.step

pub choose-requires-clause-target : goal.choose-requires-clause-target
unfolding IsStep
choose-requires-clause-target c =
    subst (IsStep c.args.self.variables)
    (step_of-any c.args.step.now c.in-Any.at c.in-Any.target c.in-Any.is) c.requires.step

pub compare-requires-clause-comparison : goal.compare-requires-clause-comparison
unfolding IsStep
compare-requires-clause-comparison c =
    subst (IsStep c.args.self.variables)
    (step_of-assume c.args.step.now c.in-Assume.comparison c.in-Assume.is) c.requires.step

pub returns-in-Assign-clause-makes : goal.returns-in-Assign-clause-makes
unfolding step_events
returns-in-Assign-clause-makes c n u cs h =
    subst (λ g. Makes (step_events n cs g) (IsUnderWay n u (cs ++ step_code g ∷ []) [])
    c.assign.result)
    (sym (step_of-assign c.args.step.now c.in-Assign.assignment c.in-Assign.is))
    (c.assign.ensures.makes n u cs h)

pub returns-in-Any-clause-makes : goal.returns-in-Any-clause-makes
unfolding step_code
returns-in-Any-clause-makes c n u cs h =
    subst (λ g. Makes (step_events n cs g) (IsUnderWay n u (cs ++ step_code g ∷ []) [])
    c.choose.result)
    (sym (step_of-any c.args.step.now c.in-Any.at c.in-Any.target c.in-Any.is))
    (c.choose.ensures.makes n u cs h)

pub returns-in-Assume-clause-makes : goal.returns-in-Assume-clause-makes
unfolding step_code step_events
returns-in-Assume-clause-makes c n u cs h =
    subst (λ g. Makes (step_events n cs g) (IsUnderWay n u (cs ++ step_code g ∷ []) [])
    c.compare.result)
    (sym (step_of-assume c.args.step.now c.in-Assume.comparison c.in-Assume.is))
    (c.compare.ensures.makes n u cs h)
