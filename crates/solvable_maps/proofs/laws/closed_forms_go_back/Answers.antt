use Rattle.solvable_maps.proofs.OneForm.{back_to_zero, inverse_form_to_zero, back_is_inverse}
use Rattle.solvable_maps.proofs.laws.closed_forms_go_back.Goals as goal

pub returns : goal.returns
returns c = record {
  back = λ base coprime images since ps form n s l.
      back_to_zero base coprime images since ps form n s l;
  inverse_form = λ base coprime images since ps form n s l.
      inverse_form_to_zero base coprime images since ps form n s l;
  to_the_state = λ base coprime images ps form n s l.
      back_is_inverse base coprime images ps form n s l;
}
