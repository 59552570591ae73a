use Rattle.std.proofs.Common.{◌≡◌, ◌≤◌, length, pos, All}
use Rattle.poly.specs.Seen.{terms_each}
use Rattle.residue_rows.specs.Modulus.{modulus}
use Rattle.residue_rows.proofs.Leads.{IsFoundTo}
use Rattle.residue_rows.proofs.elements.elements_of.Given as goal

abbrev pub invariant-loop-column : goal.invariant-loop-column
invariant-loop-column l = record {
  arities : All (λ p. p.arity ≡ l.arity) l.elements.items;
  few : length l.elements.items ≤ l.column;
  found : IsFoundTo (pos modulus) l.monomials l.echelon.rows l.column
      (terms_each l.elements.items);
}
