-- The maps of a program modulo 2^127 - 1, as the code has them.
--   modular_terms r, modular_terms_each rs        the terms of a polynomial over residues, and of each of some
--   IsMapModulo map rs            the polynomials rs have the terms of those of a map, place by place
--   AreImagesModulo ps rs         the polynomials rs are those of ps modulo 2^127 - 1, place by place
--   IsBranchModulo program b map  so are those of the map of the branch b
--   AreMapsModulo program maps    so are those of the start's map and of the maps of all branches
use Rattle.std.specs.Prelude.{ℕ, ℤ, pos, List, map}
use Rattle.std.specs.List.{AllZip}
use Rattle.std.specs.Global.{Vec}
use Rattle.algebra.specs.Fraction.{Fraction}
use Rattle.polynomials.specs.Terms.{Terms}
use Rattle.loops.specs.Program.{Expr, Program, Statement}
use Rattle.loops.specs.Map.{start_map, branch_map}
use Rattle.poly.specs.View.{terms_of}
use Rattle.poly.specs.Seen.{terms_each}
use Rattle.loop_model.specs.FracPoly.{FracPoly}
use Rattle.residue_rows.specs.Modulus.{modulus}
use Rattle.residue_rows.specs.Numbers.{number_of}
use Rattle.closing.specs.Modulo.{AreTermsModulo, IsPolynomialModulo}
use Rattle.closing.specs.declared.modular_maps.ResiduePolynomial.{ResiduePolynomial}
use Rattle.closing.specs.declared.modular_maps.ResidueMaps.{ResidueMaps}

abbrev pub modular_terms : ResiduePolynomial → Terms ℤ
modular_terms r = terms_of number_of r.terms.items

abbrev pub modular_terms_each : List ResiduePolynomial → List (Terms ℤ)
modular_terms_each rs = map modular_terms rs

abbrev pub IsMapModulo : Vec FracPoly → Vec ResiduePolynomial → Type 0
IsMapModulo map rs =
    AllZip (AreTermsModulo (pos modulus)) (terms_each map.items) (modular_terms_each rs.items)

abbrev pub AreImagesModulo : List (Terms Fraction) → List ResiduePolynomial → Type 0
AreImagesModulo ps rs = AllZip (IsPolynomialModulo (pos modulus)) ps (modular_terms_each rs)

module _ (program : Program (Expr ℕ)) where
  abbrev pub IsBranchModulo : List (Statement (Expr ℕ)) → Vec ResiduePolynomial → Type 0
  IsBranchModulo branch map = AreImagesModulo (branch_map program branch) map.items

  pub record AreMapsModulo (maps : ResidueMaps) : Type 0 where
    pub start : AreImagesModulo (start_map program) maps.start.items
    pub branches : AllZip IsBranchModulo program.branches maps.branches.items
