use Rattle.std.proofs.Common.{◌≡◌, ◌++◌}
use Rattle.program_model.proofs.Closings.{ClosedAll}
use Rattle.program_model.proofs.front.close_all.Given as goal

abbrev pub invariant-loop-path : goal.invariant-loop-path
invariant-loop-path l =
    (l.fn.paths.items ≡ l.yielded ++ l.path-iterator.rest.items)
    × ClosedAll l.to l.at l.initial.transitions.items l.yielded l.transitions.items
