use Rattle.algebra.specs.Fraction.{ℚ}
use Rattle.poly.specs.Seen.{terms_each}
use Rattle.task_lists.proofs.Agreeing.{AgreesFrom}
use Rattle.task_lists.proofs.lists.agree.Given as goal

abbrev pub invariant-loop-i : goal.invariant-loop-i
invariant-loop-i g l = AgreesFrom ℚ (terms_each l.left) (terms_each l.right) l.i
