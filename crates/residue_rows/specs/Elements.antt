-- The elements that rows of values of monomials tell.
--   IsValueRow q es row        the row has the residues of the monomials es at some state
--   IsZeroRow q es p row       at one where p is 0
--   standard_in es ls          the monomials of the columns where rows lead
--   HasResidue q f             some number is a residue of f
--   IsCandidate q es ls c p    a polynomial that is the monomial of the column c and standard monomials, these with limited numbers that have residues
use Rattle.std.specs.Prelude.{◌≡◌, ℕ, ℤ, List, [], ◌∷◌, map, get_or}
use Rattle.algebra.specs.Each.{Each}
use Rattle.algebra.specs.In.{In}
use Rattle.algebra.specs.Fraction.{Fraction, ℚ}
use Rattle.polynomials.specs.Terms.{Terms, monomial_at, value_at}
use Rattle.closures.specs.Modulo.{IsResidueOf, AreResidues}
use Rattle.residue_rows.specs.Limited.{IsLimited}
use Rattle.residue_rows.specs.EchelonForm.{Led, leads_in, pick}

module _ (q : ℤ) (es : List (List ℕ)) where
  pub record IsValueRow (row : List ℤ) : Type 0 where
    pub state : List Fraction
    pub residues : AreResidues q (map (monomial_at ℚ state) es) row

  pub record IsZeroRow (p : Terms Fraction) (row : List ℤ) : Type 0 where
    pub state : List Fraction
    pub residues : AreResidues q (map (monomial_at ℚ state) es) row
    pub zero : value_at ℚ p state ≡ ℚ.zero

abbrev pub standard_in : List (List ℕ) → List Led → List (List ℕ)
standard_in es ls = pick [] (leads_in ls) es

pub record HasResidue (q : ℤ) (f : Fraction) : Type 0 where
  pub number : ℤ
  pub is : IsResidueOf q f number

pub record IsCandidate (q : ℤ) (es : List (List ℕ)) (ls : List Led) (c : ℕ)
    (p : Terms Fraction) : Type 0 where
  pub rest : Terms Fraction
  pub is : p ≡ (get_or es c [], ℚ.one) ∷ rest
  pub standard : Each (λ t. In t.0 (standard_in es ls)) rest
  pub limited : Each (λ t. IsLimited t.1) rest
  pub residues : Each (λ t. HasResidue q t.1) rest
