use Rattle.solvable_maps.proofs.Begins.{never_zero}
use Rattle.solvable_maps.proofs.laws.no_eigenvalue_is_zero_where_a_form_begins_at_once.Goals as goal

pub returns : goal.returns
returns c = never_zero
