use Rattle.solvable_maps.proofs.OneForm.{forms_one}
use Rattle.solvable_maps.proofs.laws.maps_have_one_closed_form.Goals as goal

pub returns : goal.returns
returns c = λ base coprime O o images since other ps qs a b f g. forms_one base coprime O o images
    since other ps qs a b f g
