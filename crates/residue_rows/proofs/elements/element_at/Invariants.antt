use Rattle.std.proofs.Common.{◌≤◌, pos}
use Rattle.frac128.specs.FracMeaning.{fraction_of}
use Rattle.poly.specs.View.{terms_of}
use Rattle.residue_rows.specs.Modulus.{modulus}
use Rattle.residue_rows.specs.ElementParts.{IsElementTo}
use Rattle.residue_rows.proofs.elements.element_at.Given as goal

abbrev pub invariant-loop-place : goal.invariant-loop-place
invariant-loop-place l = record {
  within : l.place ≤ l.column;
  element : IsElementTo (pos modulus) l.monomials l.echelon.rows l.column l.place
      (terms_of fraction_of l.terms.items);
}

abbrev pub decreases-loop-place : goal.decreases-loop-place
decreases-loop-place l = l.place
