-- What a `Cert` is seen as.
--   OverVariables            a certificate, and the number of its variables
--   polys_in, rows_in, blocks_in     the terms of polynomials, of lists of them, and of lists of these
--   ArePolysOf m ps raws     ps are the polynomials raws, in m variables
--   AreRowsOf, AreBlocksOf   the same of lists of lists of n, and of lists of square lists of n
--   IsPairOf m pair raw      the same position, and the same polynomial in m variables
--   IsRowOf m n v raws       the same of a list of n polynomials;  IsBlockOf: of a list of n such lists;  AreStepsOf: of a block for each branch
--   certificate_of basis steps   the certificate of these polynomials and cofactors
--   HaveArity m ps           the polynomials are in m variables
--   IsSquare m n block       a list of n lists of n polynomials in m variables
--   IsWellSized m basis steps     what a `Cert` keeps: its polynomials are in m variables, and each branch has a square list of cofactors, a row of as many for each polynomial
--   IsComplete m branches c  c has polynomials in m variables, a list for each branch, and square lists
--   IsCertOf m branches c raw     c is the certificate raw, complete, in m variables
use Rattle.std.specs.Prelude.{◌≡◌, ℕ, List, All, map, length, vec_len, Vec}
use Rattle.std.specs.List.{AllZip}
use Rattle.std.specs.declared.alloc.Global.{Global}
use Rattle.algebra.specs.Fraction.{Fraction, ℚ}
use Rattle.polynomials.specs.Terms.{Terms}
use Rattle.polynomials.specs.Polynomial.{IsPolynomial}
use Rattle.polynomials.specs.Order.{grevlex}
use Rattle.poly.specs.Seen.{terms_each}
use Rattle.poly.specs.Standing.{IsInVariables, StandsFor, AllStandFor}
use Rattle.loop_model.specs.FracPoly.{FracPoly}
use Rattle.loops.specs.Certificate.{Certificate, SameCertificate, AreOver, cofactors}

pub record OverVariables : Type 0 where
  pub arity : ℕ
  pub certificate : Certificate

abbrev pub Polys : Type 0
Polys = Vec FracPoly Global

abbrev pub polys_in : Polys → List (Terms Fraction)
polys_in ps = terms_each ps.items

abbrev pub rows_in : Vec Polys Global → List (List (Terms Fraction))
rows_in rows = map polys_in rows.items

abbrev pub blocks_in : Vec (Vec Polys Global) Global → List (List (List (Terms Fraction)))
blocks_in blocks = map rows_in blocks.items

abbrev pub ArePolysOf : ℕ → Polys → List (Terms Fraction) → Type 0
ArePolysOf m ps raws = AllStandFor m ps.items raws

-- a position and a cofactor
pub record IsPairOf (m : ℕ) (pair : ℕ × FracPoly) (raw : ℕ × Terms Fraction) : Type 0 where
  pub position : pair.0 ≡ raw.0
  pub alike : StandsFor m pair.1 raw.1

pub record IsRowOf (m n : ℕ) (row : Polys) (raws : List (Terms Fraction)) : Type 0 where
  pub width : vec_len row ≡ n
  pub alike : ArePolysOf m row raws

abbrev pub AreRowsOf : ℕ → ℕ → Vec Polys Global → List (List (Terms Fraction)) → Type 0
AreRowsOf m n rows raws = AllZip (IsRowOf m n) rows.items raws

pub record IsBlockOf (m n : ℕ) (block : Vec Polys Global)
    (raws : List (List (Terms Fraction))) : Type 0 where
  pub height : vec_len block ≡ n
  pub alike : AreRowsOf m n block raws

abbrev pub AreBlocksOf : ℕ → ℕ → Vec (Vec Polys Global) Global → List (List (List (Terms Fraction)))
    → Type 0
AreBlocksOf m n blocks raws = AllZip (IsBlockOf m n) blocks.items raws

pub record AreStepsOf (m n branches : ℕ) (steps : Vec (Vec Polys Global) Global)
    (raws : List (List (List (Terms Fraction)))) : Type 0 where
  pub count : vec_len steps ≡ branches
  pub alike : AreBlocksOf m n steps raws

abbrev pub HaveArity : ℕ → Polys → Type 0
HaveArity m ps = All (IsInVariables m) ps.items

pub record IsSquare (m n : ℕ) (block : Vec Polys Global) : Type 0 where
  pub height : vec_len block ≡ n
  pub widths : All (λ row. vec_len row ≡ n) block.items
  pub arities : All (HaveArity m) block.items

abbrev pub certificate_of : Polys → Vec (Vec Polys Global) Global → Certificate
certificate_of basis steps = record { basis = polys_in basis; steps = blocks_in steps }

pub record IsWellSized (m : ℕ) (basis : Polys) (steps : Vec (Vec Polys Global) Global) : Type
    0 where
  pub arities : HaveArity m basis
  pub squares : All (IsSquare m (vec_len basis)) steps.items

pub record IsComplete (m branches : ℕ) (c : Certificate) : Type 0 where
  pub elements : All (IsPolynomial ℚ grevlex m) c.basis
  pub cofactors : (b i : ℕ) → All (IsPolynomial ℚ grevlex m) (cofactors c b i)
  pub count : length c.steps ≡ branches
  pub heights : All (λ rows. length rows ≡ length c.basis) c.steps
  pub widths : All (All (λ row. length row ≡ length c.basis)) c.steps

pub record IsCertOf (m branches : ℕ) (c : OverVariables) (raw : Certificate) : Type 0 where
  pub arity : c.arity ≡ m
  pub same : SameCertificate c.certificate raw
  pub over : AreOver m c.certificate
  pub complete : IsComplete m branches c.certificate
