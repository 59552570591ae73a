use Rattle.std.proofs.Common.{[]}
use Rattle.solvable_maps.specs.Uses.{uses}
use Rattle.solvable_maps.proofs.Classes.{some_ready, classes_one}
use Rattle.solvable_maps.proofs.Linear.{map_bounded}
use Rattle.solvable_maps.proofs.dependency_laws.classes_have_one_order.Goals as goal

pub returns : goal.returns
returns c _ = record {
  ready = λ m map is earlier i l new. some_ready (uses map) m (map_bounded m map is) earlier i l
      new;
  one = λ m map is gs hs p q. classes_one (uses map) m (map_bounded m map is) gs hs [] p q;
}
