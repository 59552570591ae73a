use Rattle.algebra.proofs.Fractions.{ℚ_ring}
use Rattle.poly.specs.Seen.{terms_in, Is}
use Rattle.task_lists.proofs.Combinations.{combined_to}
use Rattle.task_lists.proofs.combination.combination.Given as goal

abbrev pub invariant-loop-i : goal.invariant-loop-i
invariant-loop-i g l = Is l.fn.order l.arity (combined_to ℚ_ring terms_in l.cofactors l.list l.i)
    l.sum
