use Rattle.std.proofs.Common.{◌≡◌, ◌++◌}
use Rattle.program_text.specs.Guards.{blanks}
use Rattle.program_text.proofs.guards.pad.Given as goal

abbrev pub invariant-loop-step : goal.invariant-loop-step
invariant-loop-step l = l.text.items ≡ l.fn.text.items ++ blanks l.step
