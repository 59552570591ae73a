-- Commands on certificates: LOOP is read, then CERT, and the answer is by what CERT is for the loop. What a kind of certificates is says `reading`, which tells the
-- certificate of a loop in bytes, and `judges`, which tells the answers that such a certificate may have.
--   AnswersCertificate judges l r a     the answer a is by what CERT is, for the loop l
--   certificate_course reading judges most request     the course, where CERT has at most so many bytes; it leaves the meter alone
--   IsQuestion reading text certificate l c     the bytes are the loop l and the certificate c of it
--   IsCertificateFault reading text certificate a     a tells the first fault of CERT
--   IsStopped reading judges text certificate a     a tells what stopped the judgement of CERT
--   Refuses reading judges call request a     a tells the first fault of LOOP or of CERT, or what stopped the judgement
--   ReadsCertificate reading call request l r     the bytes of both files are told, LOOP is the loop l, and CERT is so
--   Decides holds s l c     it ends with yes where c holds, with no where it doesn't, or with a number that doesn't fit, or is excused
use Rattle.std.specs.Prelude.{◌≡◌, ◌⊎◌, ℕ, List, Some, Ok, Err}
use Rattle.loops.specs.Program.{Expr, Program}
use Rattle.loop_text.specs.LoopReader.{loop_of}
use Rattle.cert_form.specs.Form as form
use Rattle.cert_form.specs.Form.{Reading}
use Rattle.io_edge.specs.declared.answer.Status.{Status}
use Rattle.io_edge.specs.declared.answer.Status.TheVariants as status
use Rattle.io_edge.specs.Texts.{Answer}
use Rattle.io_edge.specs.Course.{Course, reads, silent}
use Rattle.io_edge.specs.Outcome.{Call}
use Rattle.io_edge.specs.Clauses.{IfTold, IsExcused}
use Rattle.command_parts.specs.LoopReading.{with_loop, IsLoopFault, ReadsLoop}
use Rattle.certificate_commands.specs.CertificateTexts.{certificate_refusal}
use Rattle.certificate_commands.specs.CertificateArguments.{Request}

module _ {C : Type 0} where
  abbrev pub AnswersCertificate : (Program (Expr ℕ) → C → Answer → Type 0) → Program (Expr ℕ)
      → Reading C → Answer → Type 0
  AnswersCertificate judges l (Err fault) a = a ≡ certificate_refusal fault
  AnswersCertificate judges l (Ok c) a = judges l c a

  abbrev pub certificate_course : (Program (Expr ℕ) → List ℕ → Reading C)
      → (Program (Expr ℕ) → C → Answer → Type 0) → ℕ → Request → Course
  certificate_course reading judges most request =
      with_loop request.file (λ l. reads (record { name = request.certificate; limit = most })
      (λ bytes. silent (λ a. AnswersCertificate judges l (reading l bytes) a)))

  module _ (reading : Program (Expr ℕ) → List ℕ → Reading C) where
    pub record IsQuestion (text certificate : List ℕ) (l : Program (Expr ℕ)) (c : C) : Type 0 where
      pub is_loop : loop_of text ≡ Ok l
      pub is_certificate : reading l certificate ≡ Ok c

    pub record IsCertificateFault (text certificate : List ℕ) (a : Answer) : Type 0 where
      pub loop : Program (Expr ℕ)
      pub is_loop : loop_of text ≡ Ok loop
      pub fault : form.Fault
      pub is : reading loop certificate ≡ Err fault
      pub says : a ≡ certificate_refusal fault

    pub record ReadsCertificate (call : Call) (request : Request) (l : Program (Expr ℕ))
        (read : Reading C) : Type 0 where
      pub loop : ReadsLoop call request.file (Ok l)
      pub certificate : List ℕ
      pub is_told : call.files.before.told request.certificate ≡ Some certificate
      pub reads : reading l certificate ≡ read

    module _ (judges : Program (Expr ℕ) → C → Answer → Type 0) where
      pub record IsStopped (text certificate : List ℕ) (a : Answer) : Type 0 where
        pub loop : Program (Expr ℕ)
        pub listed : C
        pub question : IsQuestion text certificate loop listed
        pub judged : judges loop listed a

      abbrev pub Refuses : Call → Request → Answer → Type 0
      Refuses call request a = IfTold call.files.before request.file (λ text.
          IsLoopFault text a ⊎ IfTold call.files.before request.certificate (λ certificate.
          IsCertificateFault text certificate a ⊎ IsStopped text certificate a))

  abbrev pub Decides : (Program (Expr ℕ) → C → Type 0) → Status → Program (Expr ℕ) → C → Type 0
  Decides holds s l c =
      ((s ≡ status.Yes) × holds l c)
      ⊎ (((s ≡ status.No) × ¬ (holds l c)) ⊎ ((s ≡ status.Wide) ⊎ IsExcused s))
