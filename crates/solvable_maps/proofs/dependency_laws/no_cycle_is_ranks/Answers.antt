use Rattle.solvable_maps.specs.Uses.{uses, strongly}
use Rattle.solvable_maps.proofs.Ranks.{size, no_cycle_ranks, ranks_no_cycle}
use Rattle.solvable_maps.proofs.Linear.{map_bounded, strongly_uses}
use Rattle.solvable_maps.proofs.dependency_laws.no_cycle_is_ranks.Goals as goal

pub returns : goal.returns
returns c _ = λ m map is. (
  (λ none. (
    size (uses map) (strongly map) m (map_bounded m map is) (strongly_uses m map is),
    no_cycle_ranks (uses map) (strongly map) m (map_bounded m map is) (strongly_uses m map is)
        none,
  )),
  (λ r. ranks_no_cycle (uses map) (strongly map) r.0 r.1),
)
