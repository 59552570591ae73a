-- What `check` promises.
--   IsRefuted text certificate said      they are a loop and a certificate of it, and what is said is the first identity that fails; none up to it is too long
--   Checks request call                    the clauses
use Rattle.std.specs.Prelude.{◌≡◌, ◌≢◌, ℕ, List, length, Ok, Err}
use Rattle.loops.specs.Certificate.{Certificate, Verdict, valid, IsValid, IsVerdict}
use Rattle.loops.specs.Program.{Expr, Program}
use Rattle.poly_text.specs.Reasons.{Fault, limit}
use Rattle.loop_model.specs.Operations.{IsLimit}
use Rattle.loop_model.specs.Maps.{maps_operations, AreFree}
use Rattle.cert_form.specs.Form as form
use Rattle.io_edge.specs.declared.answer.Status.TheVariants as status
use Rattle.io_edge.specs.Outcome.{Call}
use Rattle.io_edge.specs.Clauses.{Wrote, TellsWhy, IfTold, Ends, EndsOrWide, EndsTooLong, IsLonger}
use Rattle.command_parts.specs.FaultTexts.{loop_refusal}
use Rattle.command_parts.specs.LoopReading.{loop_at, ReadsLoop}
use Rattle.certificate_commands.specs.CertificateTexts.{certificate_refusal}
use Rattle.certificate_commands.specs.CheckTexts.{verdict, judgement_answer}
use Rattle.certificate_commands.specs.CertificateArguments.{Request}
use Rattle.certificate_commands.specs.CertificateAsking.{IsQuestion, Refuses, ReadsCertificate, Decides}
use Rattle.certificate_commands.specs.CheckJudging.{Judges, FitsLimit, IsShort, certificate_in}
use Rattle.certificate_commands.specs.CheckArguments.{certificate_at}
use Rattle.certificate_commands.specs.CheckHeadline.{ShowsValid}

pub record IsRefuted (text certificate said : List ℕ) : Type 0 where
  pub loop : Program (Expr ℕ)
  pub listed : Certificate
  pub question : IsQuestion certificate_in text certificate loop listed
  pub first : Verdict
  pub is : IsVerdict loop listed first
  pub fails : first ≢ valid
  pub short : FitsLimit loop listed first
  pub says : said ≡ (judgement_answer (verdict first)).text

pub record Checks (request : Request) (call : Call) : Type 0 where
  -- yes: the identities hold, and each polynomial of the certificate is zero at the end of every
  -- run of the loop
  pub valid : call.status ≡ status.Yes
      → IfTold call.files.before request.file (λ text.
      IfTold call.files.before request.certificate (λ certificate.
      Wrote call.sink (ShowsValid text certificate)))
  -- no: the text tells the first identity that fails
  pub refuted : call.status ≡ status.No
      → IfTold call.files.before request.file (λ text.
      IfTold call.files.before request.certificate (λ certificate.
      Wrote call.sink (IsRefuted text certificate)))
  -- a fault, or a number that doesn't fit: the text tells the first fault of LOOP or of CERT, or
  -- what stopped the checker
  pub why : TellsWhy call (Refuses certificate_in Judges call request)
  -- never an exhausted budget; and the meter is left alone
  pub exhausted : call.status ≢ status.Budget
  pub journal : call.meter.after ≡ call.meter.before
  -- where the bytes are told, but for want of memory and faults of the outside: the first fault;
  -- the first operation of the maps
  -- that passes a limit, or a number that doesn't fit; where none passes one and no identity is too
  -- long, yes exactly where the certificate is valid, else no
  pub loop_fault : (fault : Fault) → ReadsLoop call request.file (Err fault)
      → Ends call (loop_refusal fault)
  pub certificate_fault : (l : Program (Expr ℕ)) (fault : form.Fault)
      → ReadsCertificate certificate_in call request l (Err fault)
      → Ends call (certificate_refusal fault)
  pub map_limit : (l : Program (Expr ℕ)) (listed : Certificate) (at : ℕ)
      → ReadsCertificate certificate_in call request l (Ok listed)
      → IsLimit (length l.names) (maps_operations l) at
      → EndsOrWide call (loop_refusal (record { reason = limit; at = at }))
  pub decided : (l : Program (Expr ℕ)) (listed : Certificate)
      → ReadsCertificate certificate_in call request l (Ok listed) → AreFree l
      → IsShort l listed
      → Decides IsValid call.status l listed
  pub long : IsLonger call.files.before (loop_at request.file) → EndsTooLong call request.file
  pub long_certificate : (l : Program (Expr ℕ)) → ReadsLoop call request.file (Ok l)
      → ¬ (IsLonger call.files.before (loop_at request.file))
      → IsLonger call.files.before (certificate_at request.certificate)
      → EndsTooLong call request.certificate
