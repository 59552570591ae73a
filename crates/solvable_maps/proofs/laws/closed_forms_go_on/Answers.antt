use Rattle.solvable_maps.proofs.OneForm.{start_of, on_from}
use Rattle.solvable_maps.proofs.laws.closed_forms_go_on.Goals as goal

pub returns : goal.returns
returns c = record {
  start = λ base coprime images since ps form n s l.
      start_of base coprime images since ps form n s l;
  from = λ base coprime images since ps form d h. on_from base coprime images since ps form d h;
}
