use Rattle.std.proofs.Common.{take}
use Rattle.program_model.proofs.Dividing.{Dividing}
use Rattle.program_model.proofs.path.Path.assign.Given as goal

abbrev pub invariant-loop-divisor : goal.invariant-loop-divisor
invariant-loop-divisor l = Dividing l.initial.path (take l.divisor-index l.divisor-items) l.path
