use Rattle.std.proofs.Common.{take}
use Rattle.program_model.proofs.Copies.{Copied}
use Rattle.program_model.proofs.widening.copies.Given as goal

abbrev pub invariant-loop-poly : goal.invariant-loop-poly
invariant-loop-poly l = Copied (take l.poly-index l.poly-items) l.out.items
