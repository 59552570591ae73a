use Rattle.std.proofs.Common.{◌≡◌, ◌++◌}
use Rattle.program_model.specs.SyntaxView.{guard_of}
use Rattle.program_model.specs.PathEvents.{false_events}
use Rattle.program_model.specs.Forming.{leaving}
use Rattle.program_model.proofs.Moving.{Moved}
use Rattle.program_model.proofs.front.leave_all.Given as goal

abbrev pub invariant-loop-path : goal.invariant-loop-path
invariant-loop-path l =
    (l.fn.paths.items ≡ l.yielded ++ l.path-iterator.rest.items)
    × Moved l.variables (λ o. false_events l.variables o.steps l.guard.alone
    (guard_of l.guard).says)
    (leaving (guard_of l.guard)) l.yielded l.next.items
