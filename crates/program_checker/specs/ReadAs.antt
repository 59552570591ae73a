-- What a certificate that was read is.
--   positions_in, cofactors_in pairs    the two parts of pairs
--   certificate_in raw      the certificate that was read: the start's list is empty, and the cofactors stand at their positions
--   IsSameRow row pairs     the same positions, and the same polynomials;  AreSameRows, AreSameSteps: of lists of rows, and of lists of these
--   AreListsBehind m lists raws     the polynomials of the lists, in m variables, behind the empty list of the start
--   IsCertOf g c raw        c fits the graph and has the polynomials of the certificate that was read, at their places
use Rattle.std.specs.Prelude.{◌≡◌, ℕ, List, [], ◌∷◌, map, Vec}
use Rattle.std.specs.List.{AllZip}
use Rattle.std.specs.declared.alloc.Global.{Global}
use Rattle.algebra.specs.Fraction.{Fraction, ℚ}
use Rattle.polynomials.specs.Terms.{Terms, AllSame}
use Rattle.cert_form.specs.Cert.{Polys, ArePolysOf, polys_in}
use Rattle.flows.specs.Certificate.{Certificate, SameCertificate}
use Rattle.program_checker.specs.Rows.{filled}
use Rattle.program_checker.specs.Fits.{Fits}
use Rattle.program_checker.specs.Form.{RawRow, RawCertificate}
use Rattle.program_checker.specs.View.{certificate_of}
use Rattle.program_checker.specs.declared.cert.Row.{Row}
use Rattle.program_checker.specs.declared.cert.ProgramCert.{ProgramCert}
use Rattle.program_model.specs.declared.graph.Graph.{Graph}

abbrev pub positions_in : RawRow → List ℕ
positions_in pairs = map (λ (p : ℕ × Terms Fraction). p.0) pairs

abbrev pub cofactors_in : RawRow → List (Terms Fraction)
cofactors_in pairs = map (λ (p : ℕ × Terms Fraction). p.1) pairs

abbrev pub full_row : RawRow → List (Terms Fraction)
full_row pairs = filled 0 (positions_in pairs) (cofactors_in pairs)

abbrev pub certificate_in : RawCertificate → Certificate
certificate_in raw = record { lists = [] ∷ raw.lists; steps = map (map full_row) raw.steps }

pub record IsSameRow (row : Row) (pairs : RawRow) : Type 0 where
  pub positions : row.positions.items ≡ positions_in pairs
  pub same : AllSame ℚ (polys_in row.cofactors) (cofactors_in pairs)

abbrev pub AreSameRows : Vec Row Global → List RawRow → Type 0
AreSameRows rows raws = AllZip IsSameRow rows.items raws

abbrev pub AreSameSteps : Vec (Vec Row Global) Global → List (List RawRow) → Type 0
AreSameSteps steps raws = AllZip AreSameRows steps.items raws

abbrev pub AreListsBehind : ℕ → Vec Polys Global → List (List (Terms Fraction)) → Type 0
AreListsBehind m lists raws = AllZip (ArePolysOf m) lists.items ([] ∷ raws)

pub record IsCertOf (g : Graph) (c : ProgramCert) (raw : RawCertificate) : Type 0 where
  pub fits : Fits g c
  pub same : SameCertificate (certificate_of c) (certificate_in raw)
