-- What `checkproof` promises, from the outcome of its course.
--   settled           its answers are settled
--   checks_proof      the clauses
use Rattle.std.proofs.Common.{◌≡◌, ◌≢◌, ◌≤◌, ℕ, List, [], ◌∷◌, ◌++◌, length, refl, sym, ap, subst, ◌∙◌, Ok, Err, inl, inr}
use Rattle.std.specs.Prelude.{◌⊎◌, Some}
use Rattle.std.proofs.lemmas.Bool.{cases_lt}
use Rattle.std.proofs.lemmas.List.Elements.{All-head, All-tail}
use Rattle.loops.specs.Program.{Expr}
use Rattle.flows.specs.Certificate as flows
use Rattle.flows.specs.Certificate.{IsValid, IsVerdict}
use Rattle.poly_text.specs.Reasons.{Fault, limit}
use Rattle.cert_form.specs.Form as form
use Rattle.program_model.specs.Program.{Program}
use Rattle.program_model.specs.Events.{Event, AreFree, IsFirst, IsPastLimit, offset_of}
use Rattle.program_model.specs.Forming.{program_events}
use Rattle.program_checker.specs.Form.{RawCertificate}
use Rattle.program_checker.specs.ReadAs.{certificate_in}
use Rattle.io_edge.specs.declared.answer.Status.{Status}
use Rattle.io_edge.specs.declared.answer.Status.TheVariants as status
use Rattle.io_edge.specs.Texts.{Answer}
use Rattle.io_edge.specs.Settled.{IsSettled, IsPlain}
use Rattle.io_edge.specs.Course.{Course, reads, silent, ComesTo, EachAnswer}
use Rattle.io_edge.specs.Outcome.{Call, IsCarriedOut}
use Rattle.io_edge.specs.Reading.{by_reading}
use Rattle.io_edge.specs.Clauses.{Wrote, IfTold, TellsWhy, Ends, IsLonger}
use Rattle.io_edge.proofs.OfStatuses.{status_of, text_of as text_is, plain_yes, plain_no, refusing_fault, refusing_wide}
use Rattle.io_edge.proofs.Outcomes.{Said, at_some, if_told, said_with, refusal_told, written, or_excused, or_wide, ends_so, never, meter_kept}
use Rattle.io_edge.proofs.Outside.{too_long_told}
use Rattle.io_edge.proofs.Readings.{each_answer, is_silent, at_something, at_fault, on_reading}
use Rattle.io_edge.proofs.OneFile.{Concludes, concludes_yes, concludes_no}
use Rattle.checkproof_command.specs.Arguments.{Request, certificate_at}
use Rattle.checkproof_command.specs.Sources.{Source, source_of, program_at, program_refusal, IsProgramFault, ReadsProgram}
use Rattle.checkproof_command.specs.Texts.{Judgement, forming_limit, forming_wide, certificate_fault, valid, failure, long_identity, wide_identity, certificate_refusal, judgement_answer}
use Rattle.checkproof_command.specs.Judging.{program_graph, reading, LongIdentity, IsShort, IsJudgement, Judges}
use Rattle.checkproof_command.specs.Course.{course}
use Rattle.checkproof_command.specs.Headline.{ShowsProof}
use Rattle.checkproof_command.specs.Clauses.{IsRefuted, IsStopped, Refuses, ReadsBoth, Decides, ChecksProof}
use Rattle.checkproof_command.proofs.SourceLaws.{program_there, program_refuses, certificate_refuses}
use Rattle.checkproof_command.proofs.Headlines.{valid_shown}

-- ---- statuses
judgement_plain : (text : List ℕ) (j : Judgement) → IsPlain (judgement_answer text j).status
judgement_plain text (forming_limit at) = (refusing_fault _ refl).plain
judgement_plain text (forming_wide at) = (refusing_wide _ refl).plain
judgement_plain text (certificate_fault fault) = (certificate_refuses fault _ refl).plain
judgement_plain text (valid fs) = plain_yes _ refl
judgement_plain text (failure j i) = plain_no _ refl
judgement_plain text (long_identity j i) = (refusing_fault _ refl).plain
judgement_plain text (wide_identity j i) = (refusing_wide _ refl).plain

judges_plain : (s : Source) (bytes : List ℕ) (a : Answer) → Judges s bytes a → IsPlain a.status
judges_plain s bytes a h =
    subst IsPlain (sym (status_of h.says)) (judgement_plain s.text h.judgement)

-- ---- yes and no
module _ (text certificate : List ℕ) (s : Source) (a : Answer) (there : source_of text ≡ Ok s) where
  yes_shown : (j : Judgement) → IsJudgement s.program certificate j
      → a ≡ judgement_answer s.text j → a.status ≡ status.Yes → ShowsProof text certificate a.text
  yes_shown (valid fs) is says h =
      let same = program_there text s there in
      valid_shown text certificate a.text s.program is.raw
      (record { is_program = same.1; is_certificate = is.is }) is.holds.0 fs is.holds.1
      (text_is says ∙ ap (λ t. (judgement_answer t (valid fs)).text) same.0)
  yes_shown (forming_limit at) is says h =
      absurd (let x : status.Fault ≡ status.Yes = sym (status_of says) ∙ h in cc)
  yes_shown (forming_wide at) is says h =
      absurd (let x : status.Wide ≡ status.Yes = sym (status_of says) ∙ h in cc)
  yes_shown (certificate_fault fault) is says h =
      absurd ((certificate_refuses fault a says).yes_not h)
  yes_shown (failure j i) is says h =
      absurd (let x : status.No ≡ status.Yes = sym (status_of says) ∙ h in cc)
  yes_shown (long_identity j i) is says h =
      absurd (let x : status.Fault ≡ status.Yes = sym (status_of says) ∙ h in cc)
  yes_shown (wide_identity j i) is says h =
      absurd (let x : status.Wide ≡ status.Yes = sym (status_of says) ∙ h in cc)

  no_shown : (j : Judgement) → IsJudgement s.program certificate j
      → a ≡ judgement_answer s.text j → a.status ≡ status.No → IsRefuted text certificate a.text
  no_shown (failure j i) is says h =
      let same = program_there text s there in
      record {
        program = s.program;
        raw = is.raw;
        question = record { is_program = same.1; is_certificate = is.is };
        transition = j;
        element = i;
        is = is.holds;
        says = text_is says;
      }
  no_shown (valid fs) is says h =
      absurd (let x : status.Yes ≡ status.No = sym (status_of says) ∙ h in cc)
  no_shown (forming_limit at) is says h =
      absurd (let x : status.Fault ≡ status.No = sym (status_of says) ∙ h in cc)
  no_shown (forming_wide at) is says h =
      absurd (let x : status.Wide ≡ status.No = sym (status_of says) ∙ h in cc)
  no_shown (certificate_fault fault) is says h =
      absurd ((certificate_refuses fault a says).no_not h)
  no_shown (long_identity j i) is says h =
      absurd (let x : status.Fault ≡ status.No = sym (status_of says) ∙ h in cc)
  no_shown (wide_identity j i) is says h =
      absurd (let x : status.Wide ≡ status.No = sym (status_of says) ∙ h in cc)

  stopped_shown : Judges s certificate a → IsStopped text certificate a
  stopped_shown h =
      let same = program_there text s there in
      record {
        program = s.program;
        is_program = same.1;
        judged = subst (λ t. Judges (record { text = t; program = s.program }) certificate a) same.0
            h;
      }

-- ---- where each answer comes
-- the first event that passes a limit is one
first_alike : (es fs : List Event) (e f : Event) (xs ys : List Event)
    → es ++ e ∷ xs ≡ fs ++ f ∷ ys → AreFree es → AreFree fs → IsPastLimit e → IsPastLimit f → e ≡ f
first_alike [] [] e f xs ys h a b k l = cc
first_alike [] (x ∷ fs) e f xs ys h a b k l =
    let same : e ≡ x = cc in
    absurd (All-head (λ y. ¬ (IsPastLimit y)) x fs b (subst IsPastLimit same k))
first_alike (x ∷ es) [] e f xs ys h a b k l =
    let same : f ≡ x = cc in
    absurd (All-head (λ y. ¬ (IsPastLimit y)) x es a (subst IsPastLimit same l))
first_alike (x ∷ es) (y ∷ fs) e f xs ys h a b k l =
    let rest : es ++ e ∷ xs ≡ fs ++ f ∷ ys = cc in
    first_alike es fs e f xs ys rest (All-tail (λ y. ¬ (IsPastLimit y)) x es a)
    (All-tail (λ y. ¬ (IsPastLimit y)) y fs b) k l

limit_alike : (es : List Event) (at at' : ℕ) → IsFirst IsPastLimit es at
    → IsFirst IsPastLimit es at'
    → at ≡ at'
limit_alike es at at' f g =
    sym f.offset
    ∙ (ap offset_of (first_alike f.before g.before f.event g.event f.behind g.behind
    (sym f.order ∙ g.order) f.free g.free f.holds g.holds) ∙ g.offset)

none_within : (xs : List Event) (e : Event) (ys : List Event) → AreFree (xs ++ e ∷ ys)
    → IsPastLimit e → ⊥
none_within [] e ys a h = All-head (λ y. ¬ (IsPastLimit y)) e ys a h
none_within (x ∷ xs) e ys a h =
    none_within xs e ys (All-tail (λ y. ¬ (IsPastLimit y)) x (xs ++ e ∷ ys) a) h

free_none : (es : List Event) (at : ℕ) → IsFirst IsPastLimit es at → AreFree es → ⊥
free_none es at f free = none_within f.before f.event f.behind (subst AreFree f.order free) f.holds

-- yes or no, or a number that doesn't fit
abbrev FreelyDecides : Program (Expr ℕ) → RawCertificate → Status → Type 0
FreelyDecides p raw s =
    let holds = IsValid (program_graph p) (certificate_in raw) in
    ((s ≡ status.Yes) × holds) ⊎ (((s ≡ status.No) × ¬ holds) ⊎ (s ≡ status.Wide))

module _ (s : Source) (bytes : List ℕ) (a : Answer) where
  limit_decides : (at : ℕ) → IsFirst IsPastLimit (program_events s.program) at → (j : Judgement)
      → IsJudgement s.program bytes j → a ≡ judgement_answer s.text j
      → (a ≡ program_refusal (record { reason = limit; at = at })) ⊎ (a.status ≡ status.Wide)
  limit_decides at f (forming_limit at') is says =
      inl (says ∙ ap (λ k. program_refusal (record { reason = limit; at = k }))
      (limit_alike (program_events s.program) at' at is f))
  limit_decides at f (forming_wide at') is says = inr (status_of says)
  limit_decides at f (certificate_fault fault) is says =
      absurd (free_none (program_events s.program) at f is.0)
  limit_decides at f (valid fs) is says = absurd (free_none (program_events s.program) at f is.free)
  limit_decides at f (failure j i) is says =
      absurd (free_none (program_events s.program) at f is.free)
  limit_decides at f (long_identity j i) is says =
      absurd (free_none (program_events s.program) at f is.free)
  limit_decides at f (wide_identity j i) is says =
      absurd (free_none (program_events s.program) at f is.free)

  module _ (free : AreFree (program_events s.program)) where
    fault_decides : (fault : form.Fault) → reading s.program bytes ≡ Err fault → (j : Judgement)
        → IsJudgement s.program bytes j → a ≡ judgement_answer s.text j
        → (a ≡ certificate_refusal fault) ⊎ (a.status ≡ status.Wide)
    fault_decides fault f (forming_limit at) is says =
        absurd (free_none (program_events s.program) at is free)
    fault_decides fault f (forming_wide at) is says = inr (status_of says)
    fault_decides fault f (certificate_fault other) is says =
        let e : Err other ≡ Err fault = sym is.1 ∙ f in
        let same : other ≡ fault = cc in
        inl (says ∙ ap certificate_refusal same)
    fault_decides fault f (valid fs) is says =
        absurd (let e : Ok is.raw ≡ Err fault = sym is.is ∙ f in let z : ⊥ = cc in z)
    fault_decides fault f (failure j i) is says =
        absurd (let e : Ok is.raw ≡ Err fault = sym is.is ∙ f in let z : ⊥ = cc in z)
    fault_decides fault f (long_identity j i) is says =
        absurd (let e : Ok is.raw ≡ Err fault = sym is.is ∙ f in let z : ⊥ = cc in z)
    fault_decides fault f (wide_identity j i) is says =
        absurd (let e : Ok is.raw ≡ Err fault = sym is.is ∙ f in let z : ⊥ = cc in z)

    same_raw : (raw other : RawCertificate) → reading s.program bytes ≡ Ok raw
        → reading s.program bytes ≡ Ok other → other ≡ raw
    same_raw raw other f g = let e : Ok other ≡ Ok raw = sym g ∙ f in cc

    freely_decides : (raw : RawCertificate) → reading s.program bytes ≡ Ok raw
        → IsShort s.program raw → (j : Judgement) → IsJudgement s.program bytes j
        → a ≡ judgement_answer s.text j → FreelyDecides s.program raw a.status
    freely_decides raw f short (forming_limit at) is says =
        absurd (free_none (program_events s.program) at is free)
    freely_decides raw f short (forming_wide at) is says = inr (inr (status_of says))
    freely_decides raw f short (certificate_fault fault) is says =
        absurd (let e : Ok raw ≡ Err fault = sym f ∙ is.1 in let z : ⊥ = cc in z)
    freely_decides raw f short (valid fs) is says =
        inl (
          status_of says,
          subst (λ r. IsValid (program_graph s.program) (certificate_in r))
              (same_raw raw is.raw f is.is) is.holds.0,
        )
    freely_decides raw f short (failure j i) is says =
        let fails = subst (λ r. IsVerdict (program_graph s.program) (certificate_in r)
        (flows.step_fails j i)) (same_raw raw is.raw f is.is) is.holds in
        inr (inl (
          status_of says,
          λ h. fails.fails (h.steps j i fails.transition_within fails.within),
        ))
    freely_decides raw f short (long_identity j i) is says =
        absurd (short j i (subst (λ r. LongIdentity s.program r j i)
        (same_raw raw is.raw f is.is) is.holds))
    freely_decides raw f short (wide_identity j i) is says = inr (inr (status_of says))

-- ---- the clauses
module _ (request : Request) where
  abbrev goes : Source → Course
  goes s = reads (certificate_at request.certificate) (λ bytes. silent (λ a. Judges s bytes a))

  pub settled : EachAnswer (λ a. IsSettled a.status) (course request)
  settled = each_answer source_of program_refusal goes (λ a. IsSettled a.status)
      (program_at request.file) (λ fault a h. (program_refuses fault a h).plain.settled)
      (λ s bytes m a h. (judges_plain s bytes a h).settled)

  module _ (call : Call) (f : IsCarriedOut (course request) call) where
    kept : call.meter.after ≡ call.meter.before
    kept = meter_kept (course request) call f
        (is_silent source_of program_refusal goes (program_at request.file) (λ s bytes m h. h))

    never_exhausted : call.status ≢ status.Budget
    never_exhausted = never (course request) call f status.Budget (λ h. cc) (λ h. cc) (λ h. cc)
        (each_answer source_of program_refusal goes (λ a. a.status ≢ status.Budget)
        (program_at request.file) (λ fault a h. (program_refuses fault a h).plain.budget_not)
        (λ s bytes m a h. (judges_plain s bytes a h).budget_not))

    at_program_fault : (fault : Fault) → ReadsProgram call request.file (Err fault)
        → Ends call (program_refusal fault)
    at_program_fault fault r = ends_so (course request) call f (program_refusal fault)
        (λ x. at_fault source_of program_refusal call (program_at request.file) goes
        call.meter.after x.answer x.is fault r)

    judged : (s : Source) (bytes : List ℕ) → ReadsBoth call request s bytes
        → (x : Said (course request) call) → Judges s bytes x.answer
    judged s bytes r x =
        at_some (call.files.before.told request.certificate) bytes
        (λ b. Judges s b x.answer) r.is_told
        (at_something source_of program_refusal call (program_at request.file) goes
        call.meter.after x.answer x.is s r.program)

    -- a judgement with a status that no refusal of PROGRAM has
    module _ {t : Status} (is : Concludes t) (P : List ℕ → List ℕ → List ℕ → Type 0)
        (tells : (text certificate : List ℕ) (s : Source) (a : Answer) → source_of text ≡ Ok s
        → Judges s certificate a → a.status ≡ t → P text certificate a.text) where
      shown : call.status ≡ t
          → IfTold call.files.before request.file
          (λ text. IfTold call.files.before request.certificate
          (λ certificate. Wrote call.sink (P text certificate)))
      shown h =
          let x = said_with (course request) call f t h is.settled.memory_not is.settled.read_not
          is.settled.write_not in
          let same : x.answer.status ≡ t = sym x.same ∙ h in
          on_reading source_of program_refusal call (program_at request.file) goes
          call.meter.after x.answer x.is
          (λ text. IfTold call.files.before request.certificate
          (λ certificate. Wrote call.sink (P text certificate)))
          (λ text k. absurd (is.no_refusal _ (program_refuses k.fault x.answer k.says) same))
          (λ text s e k. if_told (call.files.before.told request.certificate) _
          (λ certificate. Wrote call.sink (P text certificate))
          (λ certificate j. written (course request) call f (P text certificate) x
          (tells text certificate s x.answer e j same)) k)

    refused : TellsWhy call (Refuses call request)
    refused is =
        refusal_told (course request) call f call.status is (Refuses call request)
        (λ x same refusing. on_reading source_of program_refusal call (program_at request.file)
        goes call.meter.after x.answer x.is
        (λ text. IsProgramFault text x.answer
        ⊎ IfTold call.files.before request.certificate
        (λ certificate. IsStopped text certificate x.answer))
        (λ text h. inl h)
        (λ text s e h. inr (if_told (call.files.before.told request.certificate) _ _
        (λ certificate j. stopped_shown text certificate s x.answer e j) h))) refl

    decides : (s : Source) (raw : RawCertificate) (x : Said (course request) call)
        → FreelyDecides s.program raw x.answer.status → Decides call.status s.program raw
    decides s raw x (inl (says, h)) = inl (x.same ∙ says, h)
    decides s raw x (inr (inl (says, h))) = inr (inl (x.same ∙ says, h))
    decides s raw x (inr (inr says)) = inr (inr (inl (x.same ∙ says)))

    is_decided : (s : Source) (bytes : List ℕ) (raw : RawCertificate)
        → ReadsBoth call request s bytes → AreFree (program_events s.program)
        → reading s.program bytes ≡ Ok raw → IsShort s.program raw
        → Decides call.status s.program raw
    is_decided s bytes raw r free read short =
        elim (or_excused (course request) call f (λ x. (let j = judged s bytes r x in
        decides s raw x (freely_decides s bytes x.answer free raw read short j.judgement j.is
        j.says)))) [ inl excused ↦ inr (inr (inr excused)) | inr h ↦ h ]

    within : (text : List ℕ) → call.files.before.told request.file ≡ Some text
        → ¬ (IsLonger call.files.before (program_at request.file))
        → length text ≤ (program_at request.file).limit
    within text is short = elim (cases_lt (program_at request.file).limit (length text)) [
      | inl longer ↦ absurd (short (record { content = text; is_told = is; longer = longer }))
      | inr few ↦ few
    ]

    comes_to_certificate : (s : Source) → ReadsProgram call request.file (Ok s)
        → ¬ (IsLonger call.files.before (program_at request.file))
        → ComesTo call.files.before.told (course request) (certificate_at request.certificate)
    comes_to_certificate s r short =
        inr (
          r.text,
          r.is_told,
          within r.text r.is_told short,
          subst (λ x. ComesTo call.files.before.told
              (by_reading source_of program_refusal x goes)
              (certificate_at request.certificate)) (sym r.reads) (inl refl),
        )

    pub checks_proof : ChecksProof request call
    checks_proof = record {
      valid = shown concludes_yes ShowsProof
          (λ text certificate s a there j. yes_shown text certificate s a there j.judgement j.is
          j.says);
      refuted = shown concludes_no IsRefuted
          (λ text certificate s a there j. no_shown text certificate s a there j.judgement j.is
          j.says);
      why = refused;
      exhausted = never_exhausted;
      journal = kept;
      program_fault = at_program_fault;
      forming_limit = λ s bytes at r first. or_wide (course request) call f
          (program_refusal (record { reason = limit; at = at }))
          (λ x. (let j = judged s bytes r x in
          limit_decides s bytes x.answer at first j.judgement j.is j.says));
      certificate_fault = λ s bytes fault r free read. or_wide (course request) call f
          (certificate_refusal fault)
          (λ x. (let j = judged s bytes r x in
          fault_decides s bytes x.answer free fault read j.judgement j.is j.says));
      decided = is_decided;
      long = λ h. too_long_told (course request) call f (program_at request.file) (inl refl) h;
      long_certificate = λ s r short h. too_long_told (course request) call f
          (certificate_at request.certificate) (comes_to_certificate s r short) h;
    }
