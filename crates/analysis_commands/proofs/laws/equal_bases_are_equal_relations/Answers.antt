use Rattle.analysis_commands.proofs.EqualRelations.{equal_relations}
use Rattle.analysis_commands.proofs.laws.equal_bases_are_equal_relations.Goals as goal

pub returns : goal.returns
returns c = λ text said other answer a b same. equal_relations text said other answer a b same
