-- What a user takes away of `checkproof`, over the bytes of both files.
--   IsQuestion text certificate p raw     the bytes are the program p and the certificate raw of it
--   ShowsProof text certificate said      the certificate is called valid, and is; what it lists at a point, or at the end, is 0 at each state that is seen there. Of each assertion is told that it holds only if
--                                         its sides are equal at each state that is seen at it
use Rattle.std.specs.Prelude.{◌≡◌, ⊤, ℕ, suc, ◌<◌, Bool, true, List, [], ◌∷◌, ◌++◌, length, Option, Some, None, Ok, codes}
use Rattle.std.specs.List.{flat_map}
use Rattle.algebra.specs.Fraction.{Fraction, ℚ}
use Rattle.polynomials.specs.Terms.{value_at}
use Rattle.loops.specs.Program.{Expr}
use Rattle.loops.specs.Run.{value}
use Rattle.flows.specs.Code.{Code, IsSeen, points}
use Rattle.flows.specs.Certificate.{IsValid, family, element}
use Rattle.program_model.specs.Program.{Program, Comparison, Mark}
use Rattle.program_model.specs.Code.{code_of}
use Rattle.program_model.specs.Forming.{marks_of}
use Rattle.program_text.specs.ProgramReader.{text_of}
use Rattle.program_checker.specs.Form.{RawCertificate}
use Rattle.program_checker.specs.ReadAs.{certificate_in}
use Rattle.io_edge.specs.Texts.{line}
use Rattle.checkproof_command.specs.Texts.{Finding, finding_text}
use Rattle.checkproof_command.specs.Judging.{program_graph, reading, AreFindings}

pub record IsQuestion (text certificate : List ℕ) (p : Program (Expr ℕ)) (raw : RawCertificate)
    : Type 0 where
  pub is_program : text_of text ≡ Ok p
  pub is_certificate : reading p certificate ≡ Ok raw

module _ (n : ℕ) (code : Code (Expr ℕ)) where
  -- the sides are equal at each state that is seen at the point v
  abbrev pub Holds : ℕ → Comparison (Expr ℕ) → Type 0
  Holds v k = (z : List Fraction) → IsSeen n code v z → value k.left z ≡ value k.right z

  abbrev pub HoldsIfTold : ℕ → Option (Comparison (Expr ℕ)) → Option Bool → Type 0
  HoldsIfTold v None told = ⊤
  HoldsIfTold v (Some k) told = told ≡ Some true → Holds v k

  abbrev pub HoldIfTold : ℕ → List (Mark (Expr ℕ)) → List Finding → Type 0
  HoldIfTold v [] fs = ⊤
  HoldIfTold v (m ∷ ms) [] = ⊤
  HoldIfTold v (m ∷ ms) (f ∷ fs) = HoldsIfTold v m.asserted f.listed × HoldIfTold (suc v) ms fs

pub record ShowsProof (text certificate said : List ℕ) : Type 0 where
  pub program : Program (Expr ℕ)
  pub raw : RawCertificate
  pub question : IsQuestion text certificate program raw
  pub identities : IsValid (program_graph program) (certificate_in raw)
  pub equations : (v i : ℕ) → 0 < v → v < suc (suc (points (code_of program.statements)))
      → i < length (family (certificate_in raw) v) → (z : List Fraction)
      → IsSeen (length program.names) (code_of program.statements) v z
      → value_at ℚ (element (certificate_in raw) v i) z ≡ ℚ.zero
  pub findings : List Finding
  pub are_found : AreFindings (length program.names) (certificate_in raw) 1
      (marks_of program.statements) findings
  pub assertions : HoldIfTold (length program.names) (code_of program.statements) 1
      (marks_of program.statements) findings
  pub says : said ≡ line (codes "valid") ++ flat_map (finding_text text) findings
