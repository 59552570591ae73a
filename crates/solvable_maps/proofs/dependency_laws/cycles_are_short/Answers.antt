use Rattle.std.proofs.Common.{◌∷◌, arith}
use Rattle.solvable_maps.specs.Uses.{uses, strongly}
use Rattle.solvable_maps.proofs.Cycles.{short_cycle}
use Rattle.solvable_maps.proofs.Linear.{map_bounded, strongly_uses}
use Rattle.solvable_maps.proofs.dependency_laws.cycles_are_short.Goals as goal

pub returns : goal.returns
returns c _ = λ m map is vs h.
    (let r = short_cycle (uses map) (strongly map) m (map_bounded m map is) (strongly_uses m map is)
    vs h in (r.0 ∷ r.1 ∷ r.2, r.3, (let l = r.4 in omega (arith, l))))
