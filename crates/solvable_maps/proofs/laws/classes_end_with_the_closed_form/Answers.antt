use Rattle.solvable_maps.proofs.Classwise.{turned_none, later_turned, turned_all}
use Rattle.solvable_maps.proofs.laws.classes_end_with_the_closed_form.Goals as goal

pub returns : goal.returns
returns c = record {
  none = λ base images since ps e. turned_none base images since ps e;
  later = λ base images since d more vs ps h. later_turned base images since d more vs ps h;
  all = λ base images since earlier ps all h arity. turned_all base images since earlier ps all h
      arity;
}
