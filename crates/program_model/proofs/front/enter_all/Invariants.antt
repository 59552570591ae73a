use Rattle.std.proofs.Common.{◌≡◌, ◌++◌}
use Rattle.program_model.specs.SyntaxView.{guard_of}
use Rattle.program_model.specs.PathEvents.{true_events}
use Rattle.program_model.specs.Forming.{entering}
use Rattle.program_model.proofs.Moving.{Moved}
use Rattle.program_model.proofs.front.enter_all.Given as goal

abbrev pub invariant-loop-path : goal.invariant-loop-path
invariant-loop-path l =
    (l.fn.paths.items ≡ l.yielded ++ l.path-iterator.rest.items)
    × Moved l.variables (λ o. true_events l.variables o.steps (guard_of l.guard).says)
    (entering (guard_of l.guard)) l.yielded l.next.items
