-- How `check` answers a certificate of a loop.
--   IsJudgement l c j         where each judgement of the certificate c may come
--   IsShort l listed          no identity of the listed polynomials, kept with their terms collected and in descending order, is refused as too long
--   FitsLimit l listed v      no identity that the verdict v on the listed polynomials, kept so, has looked at is too long
--   Judges l listed a         the answer a tells a judgement of the listed polynomials, kept with their terms collected and in descending order
--   certificate_in l bytes           the certificate of the loop l in the bytes
use Rattle.std.specs.Prelude.{◌≡◌, ℕ, List, length}
use Rattle.loops.specs.Certificate.{Certificate, Verdict, IsVerdict, IsOver, SameCertificate}
use Rattle.loop_model.specs.Operations.{IsLimit, IsWide}
use Rattle.loops.specs.Program.{Expr, Program}
use Rattle.cert_form.specs.Form.{Reading, cert_in}
use Rattle.cert_form.specs.Cert.{IsComplete}
use Rattle.loop_model.specs.Maps.{maps_operations, AreFree}
use Rattle.cert_checker.specs.Places.{Place}
use Rattle.cert_checker.specs.Short.{AreShort}
use Rattle.cert_checker.specs.Wide.{LongIdentity, WideIdentity}
use Rattle.io_edge.specs.Texts.{Answer}
use Rattle.certificate_commands.specs.CheckTexts.{Judgement, verdict, map_limit, map_wide, limit_identity, wide_identity, judgement_answer}

abbrev pub IsJudgement : Program (Expr ℕ) → Certificate → Judgement → Type 0
IsJudgement l c (verdict v) = AreFree l × IsVerdict l c v × AreShort l c v
IsJudgement l c (map_limit at) = IsLimit (length l.names) (maps_operations l) at
IsJudgement l c (map_wide at) = IsWide (length l.names) (maps_operations l) at
IsJudgement l c (limit_identity place i) = AreFree l × LongIdentity l c place i
IsJudgement l c (wide_identity place i) = AreFree l × WideIdentity l c place i

abbrev pub IsShort : Program (Expr ℕ) → Certificate → Type 0
IsShort l listed =
    (kept : Certificate) → IsComplete (length l.names) (length l.branches) kept
    → SameCertificate kept listed → (place : Place) (i : ℕ) → ¬ (LongIdentity l kept place i)

pub record FitsLimit (l : Program (Expr ℕ)) (listed : Certificate) (v : Verdict) : Type 0 where
  pub kept : Certificate
  pub complete : IsComplete (length l.names) (length l.branches) kept
  pub same : SameCertificate kept listed
  pub short : AreShort l kept v

pub record Judges (l : Program (Expr ℕ)) (listed : Certificate) (a : Answer) : Type 0 where
  pub kept : Certificate
  pub complete : IsComplete (length l.names) (length l.branches) kept
  pub over : IsOver l kept
  pub same : SameCertificate kept listed
  pub judgement : Judgement
  pub is : IsJudgement l kept judgement
  pub says : a ≡ judgement_answer judgement

abbrev pub certificate_in : Program (Expr ℕ) → List ℕ → Reading Certificate
certificate_in l bytes = cert_in l.names (length l.branches) bytes
