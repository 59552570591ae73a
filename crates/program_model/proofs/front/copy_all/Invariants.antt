use Rattle.std.proofs.Common.{take}
use Rattle.program_model.proofs.Moving.{CopiedAll}
use Rattle.program_model.proofs.front.copy_all.Given as goal

abbrev pub invariant-loop-path : goal.invariant-loop-path
invariant-loop-path l = CopiedAll (take l.path-index l.path-items) l.again.items
