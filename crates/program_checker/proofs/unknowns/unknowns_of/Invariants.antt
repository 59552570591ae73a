use Rattle.std.proofs.Common.{◌≡◌}
use Rattle.program_model.specs.Names.{unknown_names}
use Rattle.program_checker.proofs.unknowns.unknowns_of.Given as goal

abbrev pub invariant-loop-k : goal.invariant-loop-k
invariant-loop-k l = l.names ≡ unknown_names l.k
