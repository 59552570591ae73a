use Rattle.analysis_commands.proofs.EqualBases.{equal_bases}
use Rattle.analysis_commands.proofs.laws.equal_bases_are_equal_invariants.Goals as goal

pub returns : goal.returns
returns c = λ text said other answer a b same. equal_bases text said other answer a b same
