use Rattle.algebra.specs.Fraction.{rationals}
use Rattle.poly.specs.Seen.{terms_each}
use Rattle.task_lists.proofs.Below.{BelowFrom}
use Rattle.task_lists.proofs.pairs.are_below.Given as goal

abbrev pub invariant-loop-i : goal.invariant-loop-i
invariant-loop-i g l = BelowFrom rationals (g.O.Order.order l.fn.order) l.multiple
    (terms_each l.cofactors) (terms_each l.list) l.i
