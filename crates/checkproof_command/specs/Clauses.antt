-- What `checkproof` promises.
--   IsRefuted text certificate said      they are a program and a certificate of it, and what is said is the first identity that fails
--   IsStopped text certificate a         the text is a program, and a tells a judgement of the certificate
--   Refuses call request a               a tells the first fault of PROGRAM, or a judgement of CERT
--   ReadsBoth call request s bytes       PROGRAM is told, and is s, and the bytes of CERT are told
--   Decides s p raw                      it ends with yes where the certificate is valid, with no where it isn't, or with a number that doesn't fit, or is excused
--   ChecksProof request call             the clauses
use Rattle.std.specs.Prelude.{◌≡◌, ◌≢◌, ◌⊎◌, ℕ, List, Some, Ok, Err}
use Rattle.loops.specs.Program.{Expr}
use Rattle.flows.specs.Certificate.{IsValid, IsVerdict, step_fails}
use Rattle.poly_text.specs.Reasons.{Fault, limit}
use Rattle.cert_form.specs.Form as form
use Rattle.program_model.specs.Program.{Program}
use Rattle.program_model.specs.Events.{AreFree, IsFirst, IsPastLimit}
use Rattle.program_model.specs.Forming.{program_events}
use Rattle.program_text.specs.ProgramReader.{text_of}
use Rattle.program_checker.specs.Form.{RawCertificate}
use Rattle.program_checker.specs.ReadAs.{certificate_in}
use Rattle.io_edge.specs.declared.answer.Status.{Status}
use Rattle.io_edge.specs.declared.answer.Status.TheVariants as status
use Rattle.io_edge.specs.Texts.{Answer}
use Rattle.io_edge.specs.Outcome.{Call}
use Rattle.io_edge.specs.Clauses.{Wrote, TellsWhy, IfTold, IsExcused, Ends, EndsOrWide, EndsTooLong, IsLonger}
use Rattle.checkproof_command.specs.Arguments.{Request, certificate_at}
use Rattle.checkproof_command.specs.Sources.{Source, program_at, program_refusal, IsProgramFault, ReadsProgram}
use Rattle.checkproof_command.specs.Texts.{failure, certificate_refusal, judgement_answer}
use Rattle.checkproof_command.specs.Judging.{program_graph, reading, IsShort, Judges}
use Rattle.checkproof_command.specs.Headline.{IsQuestion, ShowsProof}

pub record IsRefuted (text certificate said : List ℕ) : Type 0 where
  pub program : Program (Expr ℕ)
  pub raw : RawCertificate
  pub question : IsQuestion text certificate program raw
  pub transition : ℕ
  pub element : ℕ
  pub is : IsVerdict (program_graph program) (certificate_in raw) (step_fails transition element)
  pub says : said ≡ (judgement_answer text (failure transition element)).text

pub record IsStopped (text certificate : List ℕ) (a : Answer) : Type 0 where
  pub program : Program (Expr ℕ)
  pub is_program : text_of text ≡ Ok program
  pub judged : Judges (record { text = text; program = program }) certificate a

abbrev pub Refuses : Call → Request → Answer → Type 0
Refuses call request a =
    IfTold call.files.before request.file (λ text.
    IsProgramFault text a ⊎ IfTold call.files.before request.certificate (λ certificate.
    IsStopped text certificate a))

pub record ReadsBoth (call : Call) (request : Request) (s : Source) (bytes : List ℕ) : Type
    0 where
  pub program : ReadsProgram call request.file (Ok s)
  pub is_told : call.files.before.told request.certificate ≡ Some bytes

abbrev pub Decides : Status → Program (Expr ℕ) → RawCertificate → Type 0
Decides s p raw =
    let holds = IsValid (program_graph p) (certificate_in raw) in
    ((s ≡ status.Yes) × holds)
    ⊎ (((s ≡ status.No) × ¬ holds) ⊎ ((s ≡ status.Wide) ⊎ IsExcused s))

pub record ChecksProof (request : Request) (call : Call) : Type 0 where
  -- yes: the identities hold, each polynomial of the certificate is zero at every state that is
  -- seen at its point, and the assertions that are told to hold do
  pub valid : call.status ≡ status.Yes
      → IfTold call.files.before request.file (λ text.
      IfTold call.files.before request.certificate (λ certificate.
      Wrote call.sink (ShowsProof text certificate)))
  -- no: the text tells the first identity that fails
  pub refuted : call.status ≡ status.No
      → IfTold call.files.before request.file (λ text.
      IfTold call.files.before request.certificate (λ certificate.
      Wrote call.sink (IsRefuted text certificate)))
  -- a fault, or a number that doesn't fit: the text tells the first fault of PROGRAM, what stops the
  -- forming of its transitions, the first fault of CERT, or what stopped the checker
  pub why : TellsWhy call (Refuses call request)
  -- never an exhausted budget; and the meter is left alone
  pub exhausted : call.status ≢ status.Budget
  pub journal : call.meter.after ≡ call.meter.before
  -- where the bytes are told, but for want of memory and faults of the outside: the first fault of
  -- PROGRAM; the first operation or count of its forming that passes a limit, or a number that
  -- doesn't fit; the first fault of CERT; where there is none and no identity is too long, yes
  -- exactly where the certificate is valid, else no
  pub program_fault : (fault : Fault) → ReadsProgram call request.file (Err fault)
      → Ends call (program_refusal fault)
  pub forming_limit : (s : Source) (bytes : List ℕ) (at : ℕ) → ReadsBoth call request s bytes
      → IsFirst IsPastLimit (program_events s.program) at
      → EndsOrWide call (program_refusal (record { reason = limit; at = at }))
  pub certificate_fault : (s : Source) (bytes : List ℕ) (fault : form.Fault)
      → ReadsBoth call request s bytes → AreFree (program_events s.program)
      → reading s.program bytes ≡ Err fault
      → EndsOrWide call (certificate_refusal fault)
  pub decided : (s : Source) (bytes : List ℕ) (raw : RawCertificate)
      → ReadsBoth call request s bytes → AreFree (program_events s.program)
      → reading s.program bytes ≡ Ok raw → IsShort s.program raw
      → Decides call.status s.program raw
  pub long : IsLonger call.files.before (program_at request.file) → EndsTooLong call request.file
  pub long_certificate : (s : Source) → ReadsProgram call request.file (Ok s)
      → ¬ (IsLonger call.files.before (program_at request.file))
      → IsLonger call.files.before (certificate_at request.certificate)
      → EndsTooLong call request.certificate
