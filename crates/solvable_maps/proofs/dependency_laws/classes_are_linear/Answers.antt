use Rattle.solvable_maps.proofs.Linear.{own_degree}
use Rattle.solvable_maps.proofs.dependency_laws.classes_are_linear.Goals as goal

pub returns : goal.returns
returns c _ = λ m map is none i j k t h l. own_degree m map is none i j k t h l
