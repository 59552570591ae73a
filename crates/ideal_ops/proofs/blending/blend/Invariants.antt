use Rattle.std.proofs.Common.{◌≡◌, ◌++◌, map, take}
use Rattle.algebra.specs.Scalars.{field}
use Rattle.machines.specs.Elimination.{with_first}
use Rattle.poly.specs.Seen.{terms_each}
use Rattle.poly.specs.Blending.{times_rest}
use Rattle.ideal_ops.specs.Blending.{HaveT}
use Rattle.ideal_ops.proofs.blending.blend.Given as goal

abbrev pub invariant-loop-p : goal.invariant-loop-p
invariant-loop-p g l =
    (terms_each l.gens.items ≡ map with_first (terms_each (take l.p-index l.left)))
    × HaveT l.arity l.gens.items

abbrev pub invariant-loop-q : goal.invariant-loop-q
invariant-loop-q g l = (terms_each l.gens.items ≡ map with_first (terms_each l.left)
    ++ map (times_rest (field g.K.Ring.scalars)) (terms_each (take l.q-index l.right)))
    × HaveT l.arity l.gens.items
