use Rattle.solvable_maps.proofs.OneForm.{all_values}
use Rattle.solvable_maps.proofs.laws.later_values_are_all_values.Goals as goal

pub returns : goal.returns
returns c = λ base coprime m d p q s l h n. all_values base coprime m d p q s l h n
