use Rattle.solvable_maps.proofs.Numbers.{one_form}
use Rattle.solvable_maps.proofs.laws.values_decide_normal_forms.Goals as goal

pub returns : goal.returns
returns c = λ base coprime O o m p q h k x y e. one_form base coprime O o m p q h k x y e
