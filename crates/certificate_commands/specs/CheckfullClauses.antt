-- What `checkfull` promises.
--   IsRefuted text certificate said      they are a loop and a full certificate of it, and what is said is the path of the first part that doesn't hold; the parts aren't too long
--   ChecksFull request call              the clauses
use Rattle.std.specs.Prelude.{◌≡◌, ◌≢◌, ℕ, List, length, Ok, Err}
use Rattle.loops.specs.Program.{Expr, Program}
use Rattle.corollaries.specs.Full.{FullCertificate}
use Rattle.corollaries.specs.Parts.{AllHold}
use Rattle.poly_text.specs.Reasons.{Fault, limit}
use Rattle.loop_model.specs.Operations.{IsLimit}
use Rattle.loop_model.specs.Maps.{maps_operations, AreFree}
use Rattle.cert_form.specs.Form as form
use Rattle.full_cert.specs.Form.{full_in}
use Rattle.io_edge.specs.declared.answer.Status.TheVariants as status
use Rattle.io_edge.specs.Outcome.{Call}
use Rattle.io_edge.specs.Clauses.{Wrote, TellsWhy, IfTold, Ends, EndsOrWide, EndsTooLong, IsLonger}
use Rattle.command_parts.specs.FaultTexts.{loop_refusal}
use Rattle.command_parts.specs.LoopReading.{loop_at, ReadsLoop}
use Rattle.certificate_commands.specs.CertificateTexts.{certificate_refusal}
use Rattle.certificate_commands.specs.CertificateArguments.{Request}
use Rattle.certificate_commands.specs.CertificateAsking.{IsQuestion, Refuses, ReadsCertificate, Decides}
use Rattle.certificate_commands.specs.CheckfullTexts.{fails, judgement_answer}
use Rattle.certificate_commands.specs.CheckfullJudging.{FailsFirst, FitsLimit, IsShort, Judges}
use Rattle.certificate_commands.specs.CheckfullArguments.{certificate_at}
use Rattle.certificate_commands.specs.CheckfullHeadline.{ShowsComplete}

pub record IsRefuted (text certificate said : List ℕ) : Type 0 where
  pub loop : Program (Expr ℕ)
  pub listed : FullCertificate
  pub question : IsQuestion full_in text certificate loop listed
  pub path : List ℕ
  pub first : FailsFirst loop listed path
  pub short : FitsLimit loop listed
  pub says : said ≡ (judgement_answer (fails path)).text

pub record ChecksFull (request : Request) (call : Call) : Type 0 where
  -- yes: all parts hold, and the polynomials of the certificate generate all invariants
  pub complete : call.status ≡ status.Yes
      → IfTold call.files.before request.file (λ text.
      IfTold call.files.before request.certificate (λ certificate.
      Wrote call.sink (ShowsComplete text certificate)))
  -- no: the text tells the first part that doesn't hold
  pub refuted : call.status ≡ status.No
      → IfTold call.files.before request.file (λ text.
      IfTold call.files.before request.certificate (λ certificate.
      Wrote call.sink (IsRefuted text certificate)))
  -- a fault, or a number that doesn't fit: the text tells the first fault of LOOP or of CERT, or
  -- what stopped the judge
  pub why : TellsWhy call (Refuses full_in Judges call request)
  -- never an exhausted budget; and the meter is left alone
  pub exhausted : call.status ≢ status.Budget
  pub journal : call.meter.after ≡ call.meter.before
  -- where the bytes are told, but for want of memory and faults of the outside: the first fault;
  -- the first operation of the maps
  -- that passes a limit, or a number that doesn't fit; where none passes one and no part is too long,
  -- yes exactly where all parts hold, else no
  pub loop_fault : (fault : Fault) → ReadsLoop call request.file (Err fault)
      → Ends call (loop_refusal fault)
  pub certificate_fault : (l : Program (Expr ℕ)) (fault : form.Fault)
      → ReadsCertificate full_in call request l (Err fault)
      → Ends call (certificate_refusal fault)
  pub map_limit : (l : Program (Expr ℕ)) (c : FullCertificate) (at : ℕ)
      → ReadsCertificate full_in call request l (Ok c)
      → IsLimit (length l.names) (maps_operations l) at
      → EndsOrWide call (loop_refusal (record { reason = limit; at = at }))
  pub decided : (l : Program (Expr ℕ)) (c : FullCertificate)
      → ReadsCertificate full_in call request l (Ok c) → AreFree l
      → IsShort l c
      → Decides AllHold call.status l c
  pub long : IsLonger call.files.before (loop_at request.file) → EndsTooLong call request.file
  pub long_certificate : (l : Program (Expr ℕ)) → ReadsLoop call request.file (Ok l)
      → ¬ (IsLonger call.files.before (loop_at request.file))
      → IsLonger call.files.before (certificate_at request.certificate)
      → EndsTooLong call request.certificate
