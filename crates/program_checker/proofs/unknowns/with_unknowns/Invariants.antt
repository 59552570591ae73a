use Rattle.std.proofs.Common.{◌≡◌, ◌++◌, take}
use Rattle.program_model.specs.Names.{unknown_names}
use Rattle.program_checker.proofs.unknowns.with_unknowns.Given as goal

abbrev pub invariant-loop-index : goal.invariant-loop-index
invariant-loop-index l = l.all ≡ unknown_names l.unknowns ++ take l.index l.names
