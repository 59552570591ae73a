-- What `checkfull` promises, from the outcome of its course.
--   settled      its answers are settled
--   checks       the clauses
use Rattle.std.proofs.Common.{◌≡◌, ℕ, List, ◌∷◌, length, refl, sym, ap, subst, ◌∙◌, Ok, inl, inr}
use Rattle.std.specs.Prelude.{◌⊎◌, codes}
use Rattle.algebra.specs.Each.{Each}
use Rattle.algebra.proofs.Each.{each-right}
use Rattle.loops.specs.Inv.{Inv}
use Rattle.loops.specs.Program.{Expr, Program}
use Rattle.rounds.specs.Generate.{Generates}
use Rattle.corollaries.specs.Full.{FullCertificate}
use Rattle.corollaries.specs.Parts.{Part, Holds, AllHold, IsFirst}
use Rattle.poly_text.specs.Reasons.{limit, wide}
use Rattle.loop_model.specs.Operations.{IsLimit}
use Rattle.loop_model.specs.Maps.{maps_operations, AreFree}
use Rattle.full_cert.specs.Form.{full_in}
use Rattle.io_edge.specs.declared.answer.Status.TheVariants as status
use Rattle.io_edge.specs.Texts.{Answer}
use Rattle.io_edge.specs.Settled.{IsSettled, IsPlain, IsRefusing}
use Rattle.io_edge.specs.Course.{EachAnswer}
use Rattle.io_edge.specs.Outcome.{Call, IsCarriedOut}
use Rattle.io_edge.proofs.OfStatuses.{status_of, text_of, plain_yes, plain_no, refusing_fault, refusing_wide}
use Rattle.io_edge.proofs.Outcomes.{or_wide}
use Rattle.io_edge.proofs.OneFile.{concludes_yes, concludes_no}
use Rattle.command_parts.specs.FaultTexts.{loop_refusal}
use Rattle.command_parts.proofs.LoopCourses.{loop_refuses}
use Rattle.command_parts.proofs.MapLimits.{limit_same, not_free}
use Rattle.certificate_commands.specs.CertificateArguments.{Request}
use Rattle.certificate_commands.specs.CertificateAsking.{IsQuestion}
use Rattle.certificate_commands.proofs.Asked as asked
use Rattle.certificate_commands.proofs.Asked.{Checker, FreelyDecides}
use Rattle.certificate_commands.specs.CheckfullTexts.{Judgement, complete, fails, map_limit, map_wide, limit_part, wide_part, judgement_answer}
use Rattle.certificate_commands.specs.CheckfullJudging.{FailsFirst, FitsLimit, IsJudgement, IsShort, Judges}
use Rattle.certificate_commands.specs.CheckfullArguments.{most_certificate_bytes}
use Rattle.certificate_commands.specs.CheckfullCourse.{course}
use Rattle.certificate_commands.specs.CheckfullClauses.{IsRefuted, ChecksFull}
use Rattle.certificate_commands.specs.CheckfullHeadline.{ShowsComplete}

-- ---- statuses
by_judgement_plain : (j : Judgement) → IsPlain (judgement_answer j).status
by_judgement_plain complete = plain_yes _ refl
by_judgement_plain (fails path) = plain_no _ refl
by_judgement_plain (map_limit at) = (refusing_fault _ refl).plain
by_judgement_plain (map_wide at) = (refusing_wide _ refl).plain
by_judgement_plain (limit_part path) = (refusing_fault _ refl).plain
by_judgement_plain (wide_part path) = (refusing_wide _ refl).plain

judges_plain : (l : Program (Expr ℕ)) (c : FullCertificate) (a : Answer) → Judges l c a
    → IsPlain a.status
judges_plain l c a h = subst IsPlain (sym (status_of h.says)) (by_judgement_plain h.judgement)

-- ---- verdicts of a judgement
record Verdicts (l : Program (Expr ℕ)) (c : FullCertificate) (a : Answer) : Type 0 where
  yes_is : a.status ≡ status.Yes → AllHold l c × Generates (length l.names) c.basis (Inv l)
      × (a.text ≡ codes "complete\n") × FitsLimit l c
  no_is : a.status ≡ status.No → (path : List ℕ) × FailsFirst l c path
      × (a.text ≡ (judgement_answer (fails path)).text) × FitsLimit l c

-- the judgement is none
stopped : (l : Program (Expr ℕ)) (c : FullCertificate) (a : Answer) → IsRefusing a.status
    → Verdicts l c a
stopped l c a r = record { yes_is = λ h. absurd (r.yes_not h); no_is = λ h. absurd (r.no_not h) }

by_judgement : (l : Program (Expr ℕ)) (c : FullCertificate) (a : Answer) (j : Judgement)
    → IsJudgement l c j → a ≡ judgement_answer j → Verdicts l c a
by_judgement l c a complete is says = record {
  yes_is = λ h. (is.1, is.2, text_of says, is.3);
  no_is = λ h. absurd (let x : status.Yes ≡ status.No = sym (status_of says) ∙ h in cc);
}
by_judgement l c a (fails path) is says = record {
  yes_is = λ h. absurd (let x : status.No ≡ status.Yes = sym (status_of says) ∙ h in cc);
  no_is = λ h. (path, is.1, text_of says, is.2);
}
by_judgement l c a (map_limit at) is says =
    stopped l c a (loop_refuses (record { reason = limit; at = at }) a says)
by_judgement l c a (map_wide at) is says =
    stopped l c a (loop_refuses (record { reason = wide; at = at }) a says)
by_judgement l c a (limit_part path) is says =
    stopped l c a (refusing_fault a.status (status_of says))
by_judgement l c a (wide_part path) is says =
    stopped l c a (refusing_wide a.status (status_of says))

verdicts : (l : Program (Expr ℕ)) (c : FullCertificate) (a : Answer) → Judges l c a → Verdicts l c a
verdicts l c a judges = by_judgement l c a judges.judgement judges.is judges.says

-- ---- yes and no to `checkfull`
module _ (text certificate : List ℕ) (l : Program (Expr ℕ)) (c : FullCertificate) (a : Answer)
    (question : IsQuestion full_in text certificate l c) (judged : Judges l c a) where
  complete_at : a.status ≡ status.Yes → ShowsComplete text certificate a.text
  complete_at h =
      let holds = (verdicts l c a judged).yes_is h in
      record {
        says = holds.2;
        loop = l;
        listed = c;
        question = question;
        holds = holds.0;
        generates = holds.1;
        short = holds.3;
      }

  refuted_at : a.status ≡ status.No → IsRefuted text certificate a.text
  refuted_at h =
      let first = (verdicts l c a judged).no_is h in
      record {
        loop = l;
        listed = c;
        question = question;
        path = first.0;
        first = first.1;
        says = first.2;
        short = first.3;
      }

-- ---- limits of the maps
-- an operation of the maps passes a limit
by_limit : (l : Program (Expr ℕ)) (c : FullCertificate) (at : ℕ) (a : Answer)
    → IsLimit (length l.names) (maps_operations l) at → (j : Judgement) → IsJudgement l c j
    → a ≡ judgement_answer j
    → (a ≡ loop_refusal (record { reason = limit; at = at })) ⊎ (a.status ≡ status.Wide)
by_limit l c at a f complete is says =
    absurd (not_free (length l.names) (maps_operations l) at f is.0)
by_limit l c at a f (fails path) is says =
    absurd (not_free (length l.names) (maps_operations l) at f is.0)
by_limit l c at a f (map_limit at') is says =
    inl (says ∙ ap (λ k. loop_refusal (record { reason = limit; at = k }))
    (limit_same (length l.names) (maps_operations l) at' at is f))
by_limit l c at a f (map_wide at') is says = inr (status_of says)
by_limit l c at a f (limit_part path) is says =
    absurd (not_free (length l.names) (maps_operations l) at f is.0)
by_limit l c at a f (wide_part path) is says =
    absurd (not_free (length l.names) (maps_operations l) at f is.0)

limit_decides : (l : Program (Expr ℕ)) (c : FullCertificate) (at : ℕ) (a : Answer)
    → IsLimit (length l.names) (maps_operations l) at → Judges l c a
    → (a ≡ loop_refusal (record { reason = limit; at = at })) ⊎ (a.status ≡ status.Wide)
limit_decides l c at a f judges = by_limit l c at a f judges.judgement judges.is judges.says

-- none does
-- where a part is the first that doesn't hold, not all do
first_not_all : (l : Program (Expr ℕ)) (c : FullCertificate) (part : Part) → IsFirst l c part
    → ¬ (AllHold l c)
unfolding Each
first_not_all l c part first all =
    first.fails (each-right (Holds l c) first.earlier (part ∷ first.later)
    (subst (Each (Holds l c)) first.is all.each)).0

by_free : (l : Program (Expr ℕ)) (c : FullCertificate) (a : Answer) → AreFree l → IsShort l c
    → (j : Judgement)
    → IsJudgement l c j → a ≡ judgement_answer j → FreelyDecides AllHold a.status l c
by_free l c a free short complete is says = inl (status_of says, is.1)
by_free l c a free short (fails path) is says =
    inr (inl (status_of says, first_not_all l c is.1.0 is.1.2))
by_free l c a free short (map_limit at) is says =
    absurd (not_free (length l.names) (maps_operations l) at is free)
by_free l c a free short (map_wide at) is says = inr (inr (status_of says))
by_free l c a free short (limit_part path) is says = absurd (short path is.1)
by_free l c a free short (wide_part path) is says = inr (inr (status_of says))

free_decides : (l : Program (Expr ℕ)) (c : FullCertificate) (a : Answer) → AreFree l
    → IsShort l c → Judges l c a → FreelyDecides AllHold a.status l c
free_decides l c a free short judges = by_free l c a free short judges.judgement judges.is
    judges.says

-- ---- the clauses
abbrev checker : Checker FullCertificate
checker = record {
  reading = full_in;
  judges = Judges;
  most = most_certificate_bytes;
  plain = judges_plain;
}

module _ (request : Request) where
  pub settled : EachAnswer (λ a. IsSettled a.status) (course request)
  settled = asked.settled checker request

  module _ (call : Call) (f : IsCarriedOut (course request) call) where
    pub checks : ChecksFull request call
    checks = record {
      complete = asked.shown checker request call f concludes_yes ShowsComplete complete_at;
      refuted = asked.shown checker request call f concludes_no IsRefuted refuted_at;
      why = asked.refused checker request call f;
      exhausted = asked.never_exhausted checker request call f;
      journal = asked.kept checker request call f;
      loop_fault = asked.loop_fault checker request call f;
      certificate_fault = asked.certificate_fault checker request call f;
      map_limit = λ l listed at r first. or_wide (course request) call f
          (loop_refusal (record { reason = limit; at = at }))
          (λ s. limit_decides l listed at s.answer first
          (asked.told_certificate checker request call f l (Ok listed) r s));
      decided = λ l listed r free short. asked.decided checker request call f AllHold l listed
          (λ a judged. free_decides l listed a free short judged) r;
      long = asked.long checker request call f;
      long_certificate = asked.long_certificate checker request call f;
    }
