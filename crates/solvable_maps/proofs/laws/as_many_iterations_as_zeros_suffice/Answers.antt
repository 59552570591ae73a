use Rattle.solvable_maps.proofs.Classwise.{turned_all}
use Rattle.solvable_maps.proofs.Made.{all_made}
use Rattle.solvable_maps.proofs.laws.as_many_iterations_as_zeros_suffice.Goals as goal

pub returns : goal.returns
returns c = record {
  known = λ base images ps is none zeros vs made. all_made base images ps is none zeros vs made;
  whole = λ base images ps is none zeros vs made all arity. turned_all base images zeros vs ps all
      (all_made base images ps is none zeros vs made) arity;
}
