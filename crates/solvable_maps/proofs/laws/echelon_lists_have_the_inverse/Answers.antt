use Rattle.solvable_maps.proofs.FormSplits.{forms_inverse}
use Rattle.solvable_maps.proofs.laws.echelon_lists_have_the_inverse.Goals as goal

pub returns : goal.returns
returns c = λ n rows forms echelon values are is. forms_inverse n rows forms echelon values are is
