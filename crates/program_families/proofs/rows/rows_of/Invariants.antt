use Rattle.std.proofs.Common.{◌≡◌, map, take, All}
use Rattle.program_families.specs.RestRows.{IsRowIn}
use Rattle.program_families.proofs.rows.rows_of.Given as goal

abbrev pub invariant-loop-monomial : goal.invariant-loop-monomial
invariant-loop-monomial l = record {
  monomials : map (λ r. r.monomial) l.rows.items ≡ take l.monomial-index l.monomial-items;
  numbers : All (IsRowIn l.rests) l.rows.items;
}
