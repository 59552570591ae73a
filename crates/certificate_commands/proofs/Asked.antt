-- What commands on certificates promise, from the outcome of their course.
--   Checker C             how CERT is read and judged, and how long it may be
--   settled, never_exhausted, kept     of their answers, and of the meter
--   told_certificate, loop_fault   the answer is by what CERT is, or LOOP
--   shown                 what is written where the answer is a yes or a no
--   refused               what is written where it is a fault, or a number doesn't fit
--   FreelyDecides, decided      yes or no, where the maps pass no limit
--   long, long_certificate      a file is too long
use Rattle.std.proofs.Common.{◌≡◌, ◌≢◌, ◌≤◌, ℕ, List, length, refl, sym, subst, ◌∙◌, Ok, Err, inl, inr}
use Rattle.std.specs.Prelude.{◌⊎◌, Some}
use Rattle.std.proofs.lemmas.Bool.{cases_lt}
use Rattle.loops.specs.Program.{Expr, Program}
use Rattle.poly_text.specs.Reasons.{Fault}
use Rattle.loop_text.specs.LoopReader.{loop_of}
use Rattle.cert_form.specs.Form as form
use Rattle.cert_form.specs.Form.{Reading}
use Rattle.io_edge.specs.declared.answer.Status.{Status}
use Rattle.io_edge.specs.declared.answer.Status.TheVariants as status
use Rattle.io_edge.specs.Texts.{Answer}
use Rattle.io_edge.specs.Settled.{IsSettled, IsPlain}
use Rattle.io_edge.specs.Course.{File, Course, reads, silent, ComesTo, EachAnswer}
use Rattle.io_edge.specs.Outcome.{Call, IsCarriedOut}
use Rattle.io_edge.specs.Clauses.{Wrote, IfTold, TellsWhy, Ends, EndsTooLong, IsLonger}
use Rattle.io_edge.proofs.Outcomes.{Said, at_some, if_told, said_with, refusal_told, written, or_excused, ends_so, never, meter_kept}
use Rattle.io_edge.proofs.Outside.{too_long_told}
use Rattle.io_edge.proofs.Readings.{each_answer, is_silent, at_something, at_fault, on_reading}
use Rattle.io_edge.proofs.OneFile.{Concludes}
use Rattle.command_parts.specs.FaultTexts.{loop_refusal}
use Rattle.command_parts.specs.LoopReading.{loop_at, by_loop, IsLoopFault, ReadsLoop}
use Rattle.command_parts.proofs.LoopCourses.{loop_refuses}
use Rattle.certificate_commands.specs.CertificateTexts.{certificate_refusal}
use Rattle.certificate_commands.specs.CertificateArguments.{Request}
use Rattle.certificate_commands.specs.CertificateAsking.{AnswersCertificate, certificate_course, IsQuestion, IsCertificateFault, IsStopped, Refuses, ReadsCertificate, Decides}
use Rattle.certificate_commands.proofs.Refusals.{certificate_refuses}

abbrev pub FreelyDecides : {C : Type 0} → (Program (Expr ℕ) → C → Type 0) → Status
    → Program (Expr ℕ) → C → Type 0
FreelyDecides holds s l c =
    ((s ≡ status.Yes) × holds l c) ⊎ (((s ≡ status.No) × ¬ (holds l c)) ⊎ (s ≡ status.Wide))

pub record Checker (C : Type 0) : Type 1 where
  pub reading : Program (Expr ℕ) → List ℕ → Reading C
  pub judges : Program (Expr ℕ) → C → Answer → Type 0
  pub most : ℕ
  pub plain : (l : Program (Expr ℕ)) (c : C) (a : Answer) → judges l c a → IsPlain a.status

module _ {C : Type 0} (k : Checker C) (request : Request) where
  abbrev course : Course
  course = certificate_course k.reading k.judges k.most request

  abbrev certificate : File
  certificate = record { name = request.certificate; limit = k.most }

  abbrev goes : Program (Expr ℕ) → Course
  goes l = reads certificate (λ bytes.
      silent (λ a. AnswersCertificate k.judges l (k.reading l bytes) a))

  certificate_plain : (l : Program (Expr ℕ)) (r : Reading C) (a : Answer)
      → AnswersCertificate k.judges l r a → IsPlain a.status
  certificate_plain l (Err fault) a h = (certificate_refuses fault a h).plain
  certificate_plain l (Ok c) a h = k.plain l c a h

  pub settled : EachAnswer (λ a. IsSettled a.status) course
  settled = each_answer loop_of loop_refusal goes (λ a. IsSettled a.status) (loop_at request.file)
      (λ fault a h. (loop_refuses fault a h).plain.settled)
      (λ l bytes m a h. (certificate_plain l (k.reading l bytes) a h).settled)

  module _ (call : Call) (f : IsCarriedOut course call) where
    pub kept : call.meter.after ≡ call.meter.before
    kept = meter_kept course call f
        (is_silent loop_of loop_refusal goes (loop_at request.file) (λ l bytes m h. h))

    pub never_exhausted : call.status ≢ status.Budget
    never_exhausted = never course call f status.Budget (λ h. cc) (λ h. cc) (λ h. cc)
        (each_answer loop_of loop_refusal goes (λ a. a.status ≢ status.Budget)
        (loop_at request.file) (λ fault a h. (loop_refuses fault a h).plain.budget_not)
        (λ l bytes m a h. (certificate_plain l (k.reading l bytes) a h).budget_not))

    pub loop_fault : (fault : Fault) → ReadsLoop call request.file (Err fault)
        → Ends call (loop_refusal fault)
    loop_fault fault r = ends_so course call f (loop_refusal fault)
        (λ s. at_fault loop_of loop_refusal call (loop_at request.file) goes call.meter.after
        s.answer s.is fault r)

    pub told_certificate : (l : Program (Expr ℕ)) (r : Reading C)
        → ReadsCertificate k.reading call request l r → (s : Said course call)
        → AnswersCertificate k.judges l r s.answer
    told_certificate l r told s =
        subst (λ x. AnswersCertificate k.judges l x s.answer) told.reads
        (at_some (call.files.before.told request.certificate) told.certificate
        (λ bytes. AnswersCertificate k.judges l (k.reading l bytes) s.answer)
        told.is_told
        (at_something loop_of loop_refusal call (loop_at request.file) goes call.meter.after
        s.answer s.is l told.loop))

    pub certificate_fault : (l : Program (Expr ℕ)) (fault : form.Fault)
        → ReadsCertificate k.reading call request l (Err fault)
        → Ends call (certificate_refusal fault)
    certificate_fault l fault r = ends_so course call f (certificate_refusal fault)
        (λ s. told_certificate l (Err fault) r s)

    -- a judgement with a status that no refusal has
    module _ {t : Status} (is : Concludes t) (P : List ℕ → List ℕ → List ℕ → Type 0)
        (tells : (text certificate : List ℕ) (l : Program (Expr ℕ)) (c : C) (a : Answer)
        → IsQuestion k.reading text certificate l c → k.judges l c a → a.status ≡ t
        → P text certificate a.text) where
      told_so : (text certificate : List ℕ) (l : Program (Expr ℕ)) (a : Answer)
          → loop_of text ≡ Ok l → (r : Reading C) → k.reading l certificate ≡ r
          → AnswersCertificate k.judges l r a → a.status ≡ t → P text certificate a.text
      told_so text certificate l a loop (Err fault) e j h =
          absurd (is.no_refusal a.status (certificate_refuses fault a j) h)
      told_so text certificate l a loop (Ok c) e j h =
          tells text certificate l c a (record { is_loop = loop; is_certificate = e }) j h

      pub shown : call.status ≡ t
          → IfTold call.files.before request.file
          (λ text. IfTold call.files.before request.certificate
          (λ certificate. Wrote call.sink (P text certificate)))
      shown h =
          let s = said_with course call f t h is.settled.memory_not is.settled.read_not
          is.settled.write_not in
          let same : s.answer.status ≡ t = sym s.same ∙ h in
          on_reading loop_of loop_refusal call (loop_at request.file) goes call.meter.after s.answer
          s.is
          (λ text. IfTold call.files.before request.certificate
          (λ certificate. Wrote call.sink (P text certificate)))
          (λ text j. absurd (is.no_refusal _ (loop_refuses j.fault s.answer j.says) same))
          (λ text l e j. if_told (call.files.before.told request.certificate) _
          (λ certificate. Wrote call.sink (P text certificate))
          (λ certificate i. written course call f (P text certificate) s
          (told_so text certificate l s.answer e (k.reading l certificate) refl i same)) j)

    fails_so : (text certificate : List ℕ) (l : Program (Expr ℕ)) (a : Answer)
        → loop_of text ≡ Ok l → (r : Reading C) → k.reading l certificate ≡ r
        → AnswersCertificate k.judges l r a → IsCertificateFault k.reading text certificate a
        ⊎ IsStopped k.reading k.judges text certificate a
    fails_so text certificate l a is (Err fault) e j =
        inl (record { loop = l; is_loop = is; fault = fault; is = e; says = j })
    fails_so text certificate l a is (Ok c) e j =
        inr (record {
          loop = l;
          listed = c;
          question = record { is_loop = is; is_certificate = e };
          judged = j;
        })

    pub refused : TellsWhy call (Refuses k.reading k.judges call request)
    refused is =
        refusal_told course call f call.status is (Refuses k.reading k.judges call request)
        (λ s same refusing. on_reading loop_of loop_refusal call (loop_at request.file) goes
        call.meter.after s.answer s.is
        (λ text. IsLoopFault text s.answer
        ⊎ IfTold call.files.before request.certificate
        (λ certificate. IsCertificateFault k.reading text certificate s.answer
        ⊎ IsStopped k.reading k.judges text certificate s.answer))
        (λ text h. inl h)
        (λ text l e h. inr (if_told (call.files.before.told request.certificate) _ _
        (λ certificate i. fails_so text certificate l s.answer e
        (k.reading l certificate) refl i) h))) refl

    module _ (holds : Program (Expr ℕ) → C → Type 0) (l : Program (Expr ℕ)) (c : C) where
      decides : (s : Said course call) → FreelyDecides holds s.answer.status l c
          → Decides holds call.status l c
      decides s (inl (says, h)) = inl (s.same ∙ says, h)
      decides s (inr (inl (says, h))) = inr (inl (s.same ∙ says, h))
      decides s (inr (inr says)) = inr (inr (inl (s.same ∙ says)))

      pub decided : ((a : Answer) → k.judges l c a → FreelyDecides holds a.status l c)
          → ReadsCertificate k.reading call request l (Ok c) → Decides holds call.status l c
      decided free told =
          elim (or_excused course call f
          (λ s. decides s (free s.answer (told_certificate l (Ok c) told s)))) [
            | inl excused ↦ inr (inr (inr excused))
            | inr h ↦ h
          ]

    within : (text : List ℕ) → call.files.before.told request.file ≡ Some text
        → ¬ (IsLonger call.files.before (loop_at request.file))
        → length text ≤ (loop_at request.file).limit
    within text is short = elim (cases_lt (loop_at request.file).limit (length text)) [
      | inl longer ↦ absurd (short (record { content = text; is_told = is; longer = longer }))
      | inr few ↦ few
    ]

    comes_to_certificate : (l : Program (Expr ℕ)) → ReadsLoop call request.file (Ok l)
        → ¬ (IsLonger call.files.before (loop_at request.file))
        → ComesTo call.files.before.told course certificate
    comes_to_certificate l r short =
        inr (
          r.text,
          r.is_told,
          within r.text r.is_told short,
          subst (λ x. ComesTo call.files.before.told (by_loop x goes)
              certificate) (sym r.reads) (inl refl),
        )

    pub long : IsLonger call.files.before (loop_at request.file) → EndsTooLong call request.file
    long h = too_long_told course call f (loop_at request.file) (inl refl) h

    pub long_certificate : (l : Program (Expr ℕ)) → ReadsLoop call request.file (Ok l)
        → ¬ (IsLonger call.files.before (loop_at request.file))
        → IsLonger call.files.before certificate → EndsTooLong call request.certificate
    long_certificate l r short h =
        too_long_told course call f certificate (comes_to_certificate l r short) h
