-- How `checkproof` answers the bytes of CERT, for a program.
--   program_graph p            the graph of the program
--   reading p bytes            the certificate of the program in the bytes, or its first fault
--   IsKept p raw g c           g is the program's graph, and c has the polynomials of the certificate, all with their terms collected and in descending order
--   LongIdentity p raw j i     the identities before those of the transition j hold and aren't too long, and element i is the first up to which its own are too long
--   WideIdentity p raw j i     the identities before this one hold, and the weight of one of its operations is past
--   IsShort p raw              no identity is refused as too long
--   IsListed ps q              q is one of the polynomials ps
--   IsFinding n c v m f        f says of the mark m, whose node is v, whether what is asserted there is listed;  AreFindings n c v ms fs: of marks in turn
--   IsJudgement p bytes j      where each judgement of the bytes may come
--   Judges s bytes a           the answer a tells a judgement of the bytes
use Rattle.std.specs.Prelude.{◌≡◌, ◌↔◌, ⊤, ℕ, suc, ◌<◌, Bool, true, List, [], ◌∷◌, get_or, length, Option, Some, None, Ok, Err}
use Rattle.algebra.specs.Fraction.{Fraction, ℚ}
use Rattle.polynomials.specs.Terms.{Terms, Same}
use Rattle.loops.specs.Program.{Expr}
use Rattle.flows.specs.Graph as flows
use Rattle.flows.specs.Chart as chart
use Rattle.flows.specs.Sides.{difference}
use Rattle.flows.specs.Certificate.{Certificate, IsValid, IsVerdict, step_fails, family}
use Rattle.flows.specs.Same.{IsSameGraph}
use Rattle.cert_form.specs.Form.{Reading}
use Rattle.program_model.specs.Program.{Program, Comparison, Mark}
use Rattle.program_model.specs.Code.{code_of}
use Rattle.program_model.specs.Events.{AreFree, IsFirst, IsPastLimit, IsTooWide}
use Rattle.program_model.specs.Forming.{marks_of, program_events}
use Rattle.program_model.specs.Fronts.{AreEdges}
use Rattle.program_model.specs.Graphs.{IsGraphOf}
use Rattle.program_model.specs.GraphView.{graph_of}
use Rattle.program_model.specs.declared.graph.Graph.{Graph}
use Rattle.program_checker.specs.Form.{RawCertificate, cert_in}
use Rattle.program_checker.specs.ReadAs.{certificate_in, IsCertOf}
use Rattle.program_checker.specs.Refusals.{Behind, LongHere, ShortStep, WideHere}
use Rattle.program_checker.specs.declared.cert.ProgramCert.{ProgramCert}
use Rattle.io_edge.specs.Texts.{Answer}
use Rattle.checkproof_command.specs.Sources.{Source}
use Rattle.checkproof_command.specs.Texts.{Finding, Judgement, forming_limit, forming_wide, certificate_fault, valid, failure, long_identity, wide_identity, judgement_answer}

abbrev pub program_graph : Program (Expr ℕ) → flows.Graph
program_graph p = chart.graph (length p.names) (code_of p.statements)

abbrev pub reading : Program (Expr ℕ) → List ℕ → Reading RawCertificate
reading p bytes = cert_in p.names (program_graph p) bytes

-- ---- identities
pub record IsKept (p : Program (Expr ℕ)) (raw : RawCertificate) (g : Graph) (c : ProgramCert)
    : Type 0 where
  pub graph : IsGraphOf g
  pub same : IsSameGraph (graph_of g) (program_graph p)
  pub edges : AreEdges (length p.names) (chart.all_edges (code_of p.statements)) g.transitions.items
  pub certificate : IsCertOf g c raw

module _ (p : Program (Expr ℕ)) (raw : RawCertificate) where
  pub record LongIdentity (j i : ℕ) : Type 0 where
    pub graph : Graph
    pub cert : ProgramCert
    pub kept : IsKept p raw graph cert
    pub behind : Behind graph cert j
    pub long : LongHere graph cert j i

  pub record WideIdentity (j i : ℕ) : Type 0 where
    pub graph : Graph
    pub cert : ProgramCert
    pub kept : IsKept p raw graph cert
    pub behind : Behind graph cert j
    pub short : ShortStep graph cert j
    pub wide : WideHere graph cert j i

  abbrev pub IsShort : Type 0
  IsShort = (j i : ℕ) → ¬ (LongIdentity j i)

-- ---- assertions
pub record IsListed (ps : List (Terms Fraction)) (q : Terms Fraction) : Type 0 where
  pub place : ℕ
  pub within : place < length ps
  pub same : Same ℚ (get_or ps place []) q

module _ (n : ℕ) (c : Certificate) where
  abbrev pub IsTold : ℕ → Option (Comparison (Expr ℕ)) → Option Bool → Type 0
  IsTold v None None = ⊤
  IsTold v None (Some b) = ⊥
  IsTold v (Some k) None = ⊥
  IsTold v (Some k) (Some b) = (b ≡ true) ↔ IsListed (family c v) (difference n k.left k.right)

  pub record IsFinding (v : ℕ) (m : Mark (Expr ℕ)) (f : Finding) : Type 0 where
    pub at : f.at ≡ m.at
    pub is_told : IsTold v m.asserted f.listed

  abbrev pub AreFindings : ℕ → List (Mark (Expr ℕ)) → List Finding → Type 0
  AreFindings v [] [] = ⊤
  AreFindings v [] (f ∷ fs) = ⊥
  AreFindings v (m ∷ ms) [] = ⊥
  AreFindings v (m ∷ ms) (f ∷ fs) = IsFinding v m f × AreFindings (suc v) ms fs

-- ---- judgements
module _ (p : Program (Expr ℕ)) (bytes : List ℕ) where
  -- the transitions are formed, the certificate is read, and P holds of it
  pub record IsCertified (P : RawCertificate → Type 0) : Type 0 where
    pub free : AreFree (program_events p)
    pub raw : RawCertificate
    pub is : reading p bytes ≡ Ok raw
    pub holds : P raw

  abbrev pub IsJudgement : Judgement → Type 0
  IsJudgement (forming_limit at) = IsFirst IsPastLimit (program_events p) at
  IsJudgement (forming_wide at) = IsFirst IsTooWide (program_events p) at
  IsJudgement (certificate_fault fault) =
      AreFree (program_events p) × (reading p bytes ≡ Err fault)
  IsJudgement (valid fs) =
      IsCertified (λ raw. IsValid (program_graph p) (certificate_in raw)
      × AreFindings (length p.names) (certificate_in raw) 1 (marks_of p.statements) fs)
  IsJudgement (failure j i) =
      IsCertified (λ raw. IsVerdict (program_graph p) (certificate_in raw) (step_fails j i))
  IsJudgement (long_identity j i) = IsCertified (λ raw. LongIdentity p raw j i)
  IsJudgement (wide_identity j i) = IsCertified (λ raw. WideIdentity p raw j i)

pub record Judges (s : Source) (bytes : List ℕ) (a : Answer) : Type 0 where
  pub judgement : Judgement
  pub is : IsJudgement s.program bytes judgement
  pub says : a ≡ judgement_answer s.text judgement
