use Rattle.std.proofs.Common.{take}
use Rattle.program_model.proofs.Entering.{Entering}
use Rattle.program_model.proofs.path.Path.enter.Given as goal

abbrev pub invariant-loop-comparison : goal.invariant-loop-comparison
invariant-loop-comparison l =
    Entering l.initial.path (take l.comparison-index l.comparison-items) l.path
