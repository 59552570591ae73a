use Rattle.std.proofs.Common.{◌≡◌, take, Less}
use Rattle.algebra.specs.Each.{Each}
use Rattle.polynomials.specs.Order.{compare, grevlex}
use Rattle.program_families.proofs.rows.put.Given as goal

abbrev pub invariant-loop-place : goal.invariant-loop-place
invariant-loop-place l = record {
  same : l.monomials.items ≡ l.fn.monomials.items;
  before : Each (λ e. compare grevlex e l.monomial ≡ Less) (take l.place l.fn.monomials.items);
}
