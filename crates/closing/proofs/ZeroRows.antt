-- Rows of samples as rows of values.
--   value_rows      the row of a sample has the values at a state
--   zero_rows       at which each invariant is 0
use Rattle.std.proofs.Common.{ℕ, ℤ, pos, List}
use Rattle.algebra.specs.Each.{Each}
use Rattle.algebra.proofs.Each.{each_weaker}
use Rattle.algebra.specs.Fraction.{Fraction}
use Rattle.polynomials.specs.Terms.{Terms}
use Rattle.loops.specs.Inv.{Inv}
use Rattle.loops.specs.Program.{Expr, Program}
use Rattle.residue_rows.specs.Modulus.{modulus}
use Rattle.residue_rows.specs.Elements.{IsValueRow, IsZeroRow}
use Rattle.closing.specs.Search.{monomials}
use Rattle.closing.proofs.Parts.{IsSample}

module _ (program : Program (Expr ℕ)) (d : ℕ) where
  pub value_rows : (rows : List (List ℤ)) → Each (IsSample program d) rows
      → Each (IsValueRow (pos modulus) (monomials program d)) rows
  value_rows rows h =
      each_weaker (IsSample program d) (IsValueRow (pos modulus) (monomials program d))
      (λ row r. let run = r.run in record { state = run.end; residues = r.residues }) rows h

  pub zero_rows : (p : Terms Fraction) → Inv program p → (rows : List (List ℤ))
      → Each (IsSample program d) rows
      → Each (IsZeroRow (pos modulus) (monomials program d) p) rows
  zero_rows p i rows h =
      each_weaker (IsSample program d) (IsZeroRow (pos modulus) (monomials program d) p)
      (λ row r. let run = r.run in
      record { state = run.end; residues = r.residues; zero = i.zero run }) rows h
