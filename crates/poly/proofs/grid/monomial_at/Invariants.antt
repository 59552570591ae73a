use Rattle.std.proofs.Common.{◌≡◌, ◌≤◌, ◌-◌, ◌++◌, length}
use Rattle.poly.specs.Places.{exponents_at}
use Rattle.poly.proofs.grid.monomial_at.Given as goal

abbrev pub invariant-loop-exponents : goal.invariant-loop-exponents
invariant-loop-exponents l = record {
  so_far : l.exponents.items ++ exponents_at l.base (l.arity - length l.exponents.items) l.rest
      ≡ exponents_at l.base l.arity l.place;
  count : length l.exponents.items ≤ l.arity;
}

abbrev pub decreases-loop-exponents : goal.decreases-loop-exponents
decreases-loop-exponents l = l.arity - length l.exponents.items
