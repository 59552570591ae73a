use Rattle.analysis_commands.proofs.EqualChains.{equal_chains}
use Rattle.analysis_commands.proofs.laws.equal_bases_are_equal_invariants_of_chains.Goals as goal

pub returns : goal.returns
returns c = λ text said other answer a b same. equal_chains text said other answer a b same
