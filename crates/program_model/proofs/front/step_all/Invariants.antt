use Rattle.std.proofs.Common.{◌≡◌, ◌++◌}
use Rattle.flows.specs.Chart.{then_step}
use Rattle.program_model.specs.Code.{step_code}
use Rattle.program_model.specs.SyntaxView.{step_of}
use Rattle.program_model.specs.PathEvents.{step_events}
use Rattle.program_model.proofs.Moving.{Moved}
use Rattle.program_model.proofs.front.step_all.Given as goal

abbrev pub invariant-loop-path : goal.invariant-loop-path
invariant-loop-path l =
    (l.fn.paths.items ≡ l.yielded ++ l.path-iterator.rest.items)
    × Moved l.variables (λ o. step_events l.variables o.steps (step_of l.step))
    (then_step (step_code (step_of l.step))) l.yielded l.next.items
