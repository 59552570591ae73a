-- Polynomials and programs modulo a number.
--   IsTermModulo q t u            the term u has the monomial of t, and a residue of its number
--   AreTermsModulo q ts us        so have the terms us of ts, place by place
--   IsPolynomialModulo q p r      so has r of some terms that are the polynomial p
--   HasNoResidues q p             some number of p has a denominator without an inverse
--   IsImage program p             p is a polynomial of the start's map or of a branch's
--   HasNoMapsModulo program q     so has some number of the program's maps
use Rattle.std.specs.Prelude.{◌≡◌, ◌⊎◌, ℕ, ℤ, pos, List}
use Rattle.std.specs.List.{AllZip}
use Rattle.algebra.specs.In.{In}
use Rattle.algebra.specs.Fraction.{Fraction, ℚ}
use Rattle.polynomials.specs.Terms.{Terms, Same, coefficient}
use Rattle.loops.specs.Program.{Expr, Program, Statement}
use Rattle.loops.specs.Map.{start_map, branch_map}
use Rattle.closures.specs.Modulo.{IsResidueOf, HasPivot}

pub record IsTermModulo (q : ℤ) (t : List ℕ × Fraction) (u : List ℕ × ℤ) : Type 0 where
  pub monomial : u.0 ≡ t.0
  pub number : IsResidueOf q t.1 u.1

abbrev pub AreTermsModulo : ℤ → Terms Fraction → Terms ℤ → Type 0
AreTermsModulo q ts us = AllZip (IsTermModulo q) ts us

pub record IsPolynomialModulo (q : ℤ) (p : Terms Fraction) (r : Terms ℤ) : Type 0 where
  pub terms : Terms Fraction
  pub is : Same ℚ terms p
  pub residues : AreTermsModulo q terms r

pub record HasNoResidues (q : ℤ) (p : Terms Fraction) : Type 0 where
  pub monomial : List ℕ
  pub none : ¬ (HasPivot q (pos (coefficient ℚ p monomial).den))

module _ {At : Type 0} (program : Program (Expr At)) where
  abbrev pub IsImage : Terms Fraction → Type 0
  IsImage p =
      In p (start_map program)
      ⊎ ((branch : List (Statement (Expr At))) × In branch program.branches
      × In p (branch_map program branch))

  pub record HasNoMapsModulo (q : ℤ) : Type 0 where
    pub image : Terms Fraction
    pub is : IsImage image
    pub none : HasNoResidues q image
