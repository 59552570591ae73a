-- What `check` promises, from the outcome of its course.
--   settled      its answers are settled
--   checks       the clauses
use Rattle.std.proofs.Common.{◌≡◌, ◌≢◌, ℕ, List, length, refl, sym, ap, subst, ◌∙◌, Ok, inl, inr}
use Rattle.std.specs.Prelude.{◌⊎◌, codes}
use Rattle.loops.specs.Certificate.{Certificate, Verdict, valid, start_fails, step_fails, IsValid, IsVerdict, IsOver, SameCertificate}
use Rattle.loops.proofs.Certificates.{certificate_lists_invariants}
use Rattle.loops.proofs.SameVerdict.{same_verdict}
use Rattle.loops.proofs.Verdicts.{verdict_unique}
use Rattle.loops.specs.Program.{Expr, Program}
use Rattle.poly_text.specs.Reasons.{limit, wide}
use Rattle.loop_model.specs.Operations.{IsLimit}
use Rattle.loop_model.specs.Maps.{maps_operations, AreFree}
use Rattle.cert_form.specs.Form.{cert_in}
use Rattle.cert_form.specs.Cert.{IsComplete}
use Rattle.cert_form.proofs.Over.{certificate_over}
use Rattle.io_edge.specs.declared.answer.Status.TheVariants as status
use Rattle.io_edge.specs.Texts.{Answer}
use Rattle.io_edge.specs.Settled.{IsSettled, IsPlain, IsRefusing}
use Rattle.io_edge.specs.Course.{EachAnswer}
use Rattle.io_edge.specs.Outcome.{Call, IsCarriedOut}
use Rattle.io_edge.proofs.OfStatuses.{status_of, text_of, plain_yes, plain_no, refusing_fault, refusing_wide}
use Rattle.io_edge.proofs.Outcomes.{or_wide}
use Rattle.io_edge.proofs.OneFile.{concludes_yes, concludes_no}
use Rattle.command_parts.specs.FaultTexts.{loop_refusal}
use Rattle.command_parts.proofs.LoopCourses.{loop_refuses}
use Rattle.command_parts.proofs.MapLimits.{limit_same, not_free}
use Rattle.cert_checker.specs.Places.{Place}
use Rattle.cert_checker.specs.Short.{AreShort}
use Rattle.cert_checker.specs.Wide.{LongIdentity}
use Rattle.certificate_commands.specs.CheckTexts.{Judgement, verdict, map_limit, map_wide, limit_identity, wide_identity, judgement_answer}
use Rattle.certificate_commands.specs.CertificateAsking.{IsQuestion}
use Rattle.certificate_commands.proofs.Asked as asked
use Rattle.certificate_commands.proofs.Asked.{Checker, FreelyDecides}
use Rattle.certificate_commands.specs.CheckJudging.{IsJudgement, IsShort, FitsLimit, Judges, certificate_in}
use Rattle.certificate_commands.specs.CertificateArguments.{Request}
use Rattle.certificate_commands.specs.CheckArguments.{most_certificate_bytes}
use Rattle.certificate_commands.specs.CheckCourse.{course}
use Rattle.certificate_commands.specs.CheckClauses.{IsRefuted, Checks}
use Rattle.certificate_commands.specs.CheckHeadline.{ShowsValid}

-- ---- statuses
by_judgement_plain : (j : Judgement) → IsPlain (judgement_answer j).status
by_judgement_plain (verdict valid) = plain_yes _ refl
by_judgement_plain (verdict (start_fails i)) = plain_no _ refl
by_judgement_plain (verdict (step_fails b i)) = plain_no _ refl
by_judgement_plain (map_limit at) = (refusing_fault _ refl).plain
by_judgement_plain (map_wide at) = (refusing_wide _ refl).plain
by_judgement_plain (limit_identity place i) = (refusing_fault _ refl).plain
by_judgement_plain (wide_identity place i) = (refusing_wide _ refl).plain

judges_plain : (l : Program (Expr ℕ)) (listed : Certificate) (a : Answer) → Judges l listed a
    → IsPlain a.status
judges_plain l listed a h = subst IsPlain (sym (status_of h.says)) (by_judgement_plain h.judgement)

-- ---- verdicts of a judgement
record Verdicts (l : Program (Expr ℕ)) (listed : Certificate) (a : Answer) : Type 0 where
  yes_is : a.status ≡ status.Yes → IsValid l listed × (a.text ≡ codes "valid\n")
      × FitsLimit l listed valid
  no_is : a.status ≡ status.No
      → (v : Verdict) × IsVerdict l listed
      v × (v ≢ valid) × (a.text ≡ (judgement_answer (verdict v)).text) × FitsLimit l listed v

-- the judgement is none
stopped : (l : Program (Expr ℕ)) (listed : Certificate) (a : Answer) → IsRefusing a.status
    → Verdicts l listed a
stopped l listed a r =
    record { yes_is = λ h. absurd (r.yes_not h); no_is = λ h. absurd (r.no_not h) }

module _ (l : Program (Expr ℕ)) (kept listed : Certificate) (a : Answer)
    (complete : IsComplete (length l.names) (length l.branches) kept)
    (equal : SameCertificate kept listed)
    (same : (v : Verdict) → IsVerdict l kept v → IsVerdict l listed v) where
  fits : (v : Verdict) → AreShort l kept v → FitsLimit l listed v
  fits v short = record { kept = kept; complete = complete; same = equal; short = short }

  failing : (v : Verdict) → v ≢ valid → IsVerdict l kept v → AreShort l kept v
      → a ≡ judgement_answer (verdict v) → a.status ≢ status.Yes → Verdicts l listed a
  failing v fails is short says not = record {
    yes_is = λ h. absurd (not h);
    no_is = λ h. (v, same v is, fails, text_of says, fits v short);
  }

  by_judgement : (j : Judgement) → IsJudgement l kept j → a ≡ judgement_answer j
      → Verdicts l listed a
  by_judgement (verdict valid) is says = record {
    yes_is = λ h. (same valid is.1, text_of says, fits valid is.2);
    no_is = λ h. absurd (let x : status.Yes ≡ status.No = sym (status_of says) ∙ h in cc);
  }
  by_judgement (verdict (start_fails i)) is says =
      failing (start_fails i) (λ h. (cc)) is.1 is.2 says
      (λ h. (let x : status.No ≡ status.Yes = sym (status_of says) ∙ h in cc))
  by_judgement (verdict (step_fails b i)) is says =
      failing (step_fails b i) (λ h. (cc)) is.1 is.2 says
      (λ h. (let x : status.No ≡ status.Yes = sym (status_of says) ∙ h in cc))
  by_judgement (map_limit at) is says =
      stopped l listed a (loop_refuses (record { reason = limit; at = at }) a says)
  by_judgement (map_wide at) is says =
      stopped l listed a (loop_refuses (record { reason = wide; at = at }) a says)
  by_judgement (limit_identity place i) is says =
      stopped l listed a (refusing_fault a.status (status_of says))
  by_judgement (wide_identity place i) is says =
      stopped l listed a (refusing_wide a.status (status_of says))

verdicts : (l : Program (Expr ℕ)) (certificate : List ℕ) (listed : Certificate) (a : Answer)
    → cert_in l.names (length l.branches) certificate ≡ Ok listed → Judges l listed a
    → Verdicts l listed a
verdicts l certificate listed a is judges =
    let over : IsOver l listed =
    certificate_over l.names (length l.branches) certificate listed is in
    by_judgement l judges.kept listed a judges.complete judges.same
    (λ v. same_verdict l judges.kept listed v judges.over over judges.same) judges.judgement
    judges.is judges.says

-- ---- yes and no to `check`
module _ (text certificate : List ℕ) (l : Program (Expr ℕ)) (listed : Certificate) (a : Answer)
    (question : IsQuestion certificate_in text certificate l listed)
    (judged : Judges l listed a) where
  found : Verdicts l listed a
  found = verdicts l certificate listed a question.is_certificate judged

  valid_at : a.status ≡ status.Yes → ShowsValid text certificate a.text
  valid_at h =
      let over : IsOver l listed =
      certificate_over l.names (length l.branches) certificate listed question.is_certificate in
      let holds = found.yes_is h in
      record {
        says = holds.1;
        loop = l;
        listed = listed;
        question = question;
        identities = holds.0;
        short = holds.2;
        invariants = certificate_lists_invariants l listed over holds.0;
      }

  refuted_at : a.status ≡ status.No → IsRefuted text certificate a.text
  refuted_at h =
      let fails = found.no_is h in
      record {
        loop = l;
        listed = listed;
        question = question;
        first = fails.0;
        is = fails.1;
        fails = fails.2;
        says = fails.3;
        short = fails.4;
      }

-- ---- limits of the maps
-- an operation of the maps passes a limit
by_limit : (l : Program (Expr ℕ)) (kept : Certificate) (at : ℕ) (a : Answer)
    → IsLimit (length l.names) (maps_operations l) at → (j : Judgement) → IsJudgement l kept j
    → a ≡ judgement_answer j
    → (a ≡ loop_refusal (record { reason = limit; at = at })) ⊎ (a.status ≡ status.Wide)
by_limit l kept at a f (verdict v) is says =
    absurd (not_free (length l.names) (maps_operations l) at f is.0)
by_limit l kept at a f (map_limit at') is says =
    inl (says ∙ ap (λ k. loop_refusal (record { reason = limit; at = k }))
    (limit_same (length l.names) (maps_operations l) at' at is f))
by_limit l kept at a f (map_wide at') is says = inr (status_of says)
by_limit l kept at a f (limit_identity place i) is says =
    absurd (not_free (length l.names) (maps_operations l) at f is.0)
by_limit l kept at a f (wide_identity place i) is says =
    absurd (not_free (length l.names) (maps_operations l) at f is.0)

limit_decides : (l : Program (Expr ℕ)) (listed : Certificate) (at : ℕ) (a : Answer)
    → IsLimit (length l.names) (maps_operations l) at → Judges l listed a
    → (a ≡ loop_refusal (record { reason = limit; at = at })) ⊎ (a.status ≡ status.Wide)
limit_decides l listed at a f judges =
    by_limit l judges.kept at a f judges.judgement judges.is judges.says

-- none does
module _ (l : Program (Expr ℕ)) (kept listed : Certificate) (a : Answer) (free : AreFree l)
    (short : (place : Place) (i : ℕ) → ¬ (LongIdentity l kept place i))
    (same : (v : Verdict) → IsVerdict l kept v → IsVerdict l listed v) where
  by_failing : (v : Verdict) → v ≢ valid → IsVerdict l kept v → a.status ≡ status.No
      → FreelyDecides IsValid a.status l listed
  by_failing v fails is says =
      inr (inl (says, λ holds. fails (verdict_unique l listed v valid (same v is) holds)))

  by_free : (j : Judgement) → IsJudgement l kept j → a ≡ judgement_answer j
      → FreelyDecides IsValid a.status l listed
  by_free (verdict valid) is says = inl (status_of says, same valid is.1)
  by_free (verdict (start_fails i)) is says =
      by_failing (start_fails i) (λ h. (cc)) is.1 (status_of says)
  by_free (verdict (step_fails b i)) is says =
      by_failing (step_fails b i) (λ h. (cc)) is.1 (status_of says)
  by_free (map_limit at) is says = absurd (not_free (length l.names) (maps_operations l) at is free)
  by_free (map_wide at) is says = inr (inr (status_of says))
  by_free (limit_identity place i) is says = absurd (short place i is.1)
  by_free (wide_identity place i) is says = inr (inr (status_of says))

free_decides : (l : Program (Expr ℕ)) (certificate : List ℕ) (listed : Certificate) (a : Answer)
    → AreFree l → IsShort l listed → cert_in l.names (length l.branches) certificate ≡ Ok listed
    → Judges l listed a → FreelyDecides IsValid a.status l listed
free_decides l certificate listed a free short is judges =
    let over : IsOver l listed =
    certificate_over l.names (length l.branches) certificate listed is in
    by_free l judges.kept listed a free (short judges.kept judges.complete judges.same)
    (λ v. same_verdict l judges.kept listed v judges.over over judges.same) judges.judgement
    judges.is judges.says

-- ---- the clauses
abbrev checker : Checker Certificate
checker = record {
  reading = certificate_in;
  judges = Judges;
  most = most_certificate_bytes;
  plain = judges_plain;
}

module _ (request : Request) where
  pub settled : EachAnswer (λ a. IsSettled a.status) (course request)
  settled = asked.settled checker request

  module _ (call : Call) (f : IsCarriedOut (course request) call) where
    pub checks : Checks request call
    checks = record {
      valid = asked.shown checker request call f concludes_yes ShowsValid valid_at;
      refuted = asked.shown checker request call f concludes_no IsRefuted refuted_at;
      why = asked.refused checker request call f;
      exhausted = asked.never_exhausted checker request call f;
      journal = asked.kept checker request call f;
      loop_fault = asked.loop_fault checker request call f;
      certificate_fault = asked.certificate_fault checker request call f;
      map_limit = λ l listed at r first. or_wide (course request) call f
          (loop_refusal (record { reason = limit; at = at }))
          (λ s. limit_decides l listed at s.answer first
          (asked.told_certificate checker request call f l (Ok listed) r s));
      decided = λ l listed r free short. asked.decided checker request call f IsValid l listed
          (λ a judged. free_decides l r.certificate listed a free short r.reads judged) r;
      long = asked.long checker request call f;
      long_certificate = asked.long_certificate checker request call f;
    }
