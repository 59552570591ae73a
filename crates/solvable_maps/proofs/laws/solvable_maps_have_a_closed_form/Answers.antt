use Rattle.solvable_maps.proofs.Existence.{map_exists}
use Rattle.solvable_maps.proofs.laws.solvable_maps_have_a_closed_form.Goals as goal

pub returns : goal.returns
returns c = λ base coprime images is none groups all splits.
    let made = map_exists base coprime images is none splits groups all in
    (made.since, made.polys, made.form, made.stays)
