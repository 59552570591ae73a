-- The outcome of a course over the bytes that are told of its files.
--   excused_or, not_excused     a status is that of want of memory or of the outside, or it isn't
--   at_told, if_told, at_some   what holds of what was read holds of what is told
--   outcome                     the answer by what the reads gave is that by what is told
--   meter_told, silent_kept     what is left in the meter;  meter_left: after a call;  meter_kept: after one whose course is silent
--   Said, said                  unless the status is excused, the call ended with an answer that is the outcome, and wrote it
--   said_with, yes_said         so it is where its status is none of these, and where it is a yes
--   written                     what is shown of the answer's text was written
--   or_excused, or_yes, ends_so, or_wide, or_fault     how the call ends, by what the outcome is
--   refusal_told                what was written where it is a fault, or a number that doesn't fit
--   never                       a status that no answer has
use Rattle.std.proofs.Common.{◌≡◌, ◌≢◌, ℕ, List, [], ◌∷◌, refl, sym, ap, subst, ◌∙◌, Ok, Err, inl, inr}
use Rattle.std.specs.Prelude.{◌⊎◌, Option, Some, None, IfSome, unwrap_or}
use Rattle.io_edge.specs.Bytes.{with_more}
use Rattle.machines.specs.Journal.{Journal}
use Rattle.io_edge.specs.declared.answer.Status.{Status}
use Rattle.io_edge.specs.declared.answer.Status.TheVariants as status
use Rattle.io_edge.specs.Texts.{Answer, with_text, memory_answer}
use Rattle.io_edge.specs.Settled.{IsRefusing}
use Rattle.io_edge.specs.Course.{Got, Course, reads, ends, AreTold, Keeps, IsAnswer, Outcome, LeftBy, IsSilent, EachAnswer}
use Rattle.io_edge.specs.Outcome.{Call, IsCarriedOut}
use Rattle.io_edge.specs.Clauses.{Wrote, IsExcused, IsFaultOrWide, Ends, EndsOrWide, EndsAtFault}
use Rattle.io_edge.proofs.OfStatuses.{status_of, text_of, unread_status, refusing_fault, refusing_wide}

pub record NotExcused (s : Status) : Type 0 where
  pub memory : s ≢ status.Memory
  pub read_fault : s ≢ status.ReadFault
  pub write_fault : s ≢ status.WriteFault

differs : (s : Status) → s ≢ status.Memory → s ≢ status.ReadFault → s ≢ status.WriteFault
    → IsExcused s ⊎ NotExcused s
differs s m r w = inr (record { memory = m; read_fault = r; write_fault = w })

pub excused_or : (s : Status) → IsExcused s ⊎ NotExcused s
excused_or status.Yes = differs status.Yes (λ h. cc) (λ h. cc) (λ h. cc)
excused_or status.No = differs status.No (λ h. cc) (λ h. cc) (λ h. cc)
excused_or status.Usage = differs status.Usage (λ h. cc) (λ h. cc) (λ h. cc)
excused_or status.Fault = differs status.Fault (λ h. cc) (λ h. cc) (λ h. cc)
excused_or status.Wide = differs status.Wide (λ h. cc) (λ h. cc) (λ h. cc)
excused_or status.Budget = differs status.Budget (λ h. cc) (λ h. cc) (λ h. cc)
excused_or status.Memory = inl (inl refl)
excused_or status.ReadFault = inl (inr (inl refl))
excused_or status.WriteFault = inl (inr (inr refl))

pub not_excused : (s t : Status) → s ≡ t → t ≢ status.Memory → t ≢ status.ReadFault
    → t ≢ status.WriteFault → NotExcused s
not_excused s t e m r w =
    record {
      memory = λ h. m (sym e ∙ h);
      read_fault = λ h. r (sym e ∙ h);
      write_fault = λ h. w (sym e ∙ h);
    }

pub at_told : (x : Option (List ℕ)) (bytes : List ℕ) (P : List ℕ → Type 0)
    → IfSome x (λ k. bytes ≡ k) → P bytes → IfSome x P
at_told None bytes P e h = tt
at_told (Some k) bytes P e h = subst P e h

pub if_told : (x : Option (List ℕ)) (P P' : List ℕ → Type 0) → ((text : List ℕ) → P text → P' text)
    → IfSome x P → IfSome x P'
if_told None P P' f h = tt
if_told (Some text) P P' f h = f text h

pub at_some : (x : Option (List ℕ)) (k : List ℕ) (P : List ℕ → Type 0) → x ≡ Some k → IfSome x P
    → P k
at_some None k P e h = absurd (cc)
at_some (Some j) k P e h = let same : j ≡ k = cc in subst P same h

module _ (told : List ℕ → Option (List ℕ)) where
  pub outcome : (course : Course) (gots : List Got) (m : Journal) (a : Answer)
      → AreTold told course gots → a.status ≢ status.ReadFault → IsAnswer course gots m a
      → Outcome told course m a
  outcome (reads file next) [] m a are not h = absurd h
  outcome (reads file next) (Err e ∷ gots) m a are not h =
      absurd (not (unread_status file.name e a h))
  outcome (reads file next) (Ok bytes ∷ gots) m a are not h =
      at_told (told file.name) bytes (λ text. Outcome told (next text) m a) are.0.0
      (outcome (next bytes) gots m a are.1 not h)
  outcome (ends Leaves Answers) gots m a are not h = h

  pub meter_told : (course : Course) (gots : List Got) (m m' : Journal) → AreTold told course gots
      → Keeps course gots m m' → (m' ≡ m) ⊎ LeftBy told course m'
  meter_told (reads file next) [] m m' are h = inl h
  meter_told (reads file next) (Err e ∷ gots) m m' are h = inl h
  meter_told (reads file next) (Ok bytes ∷ gots) m m' are h =
      elim (meter_told (next bytes) gots m m' are.1 h) [
        | inl kept ↦ inl kept
        | inr left ↦ inr (at_told (told file.name) bytes
            (λ text. LeftBy told (next text) m') are.0.0 left)
      ]
  meter_told (ends Leaves Answers) gots m m' are h = h

pub silent_kept : (course : Course) (gots : List Got) (m m' : Journal) → IsSilent course
    → Keeps course gots m m' → m' ≡ m
silent_kept (reads file next) [] m m' silent h = h
silent_kept (reads file next) (Err e ∷ gots) m m' silent h = h
silent_kept (reads file next) (Ok bytes ∷ gots) m m' silent h =
    silent_kept (next bytes) gots m m' (silent bytes) h
silent_kept (ends Leaves Answers) gots m m' silent h =
    elim h [ inl kept ↦ kept | inr left ↦ absurd (silent m' left) ]

pub each_answered : (P : Answer → Type 0) (course : Course) (gots : List Got) (m : Journal)
    (a : Answer) → EachAnswer P course → IsAnswer course gots m a → (a.status ≡ status.ReadFault)
    ⊎ P a
each_answered P (reads file next) [] m a each h = absurd h
each_answered P (reads file next) (Err e ∷ gots) m a each h = inl (unread_status file.name e a h)
each_answered P (reads file next) (Ok bytes ∷ gots) m a each h =
    each_answered P (next bytes) gots m a (each bytes) h
each_answered P (ends Leaves Answers) gots m a each h = inr (each m a h)

-- ---- a call that isn't excused
pub record Said (course : Course) (call : Call) : Type 0 where
  pub answer : Answer
  pub gots : List Got
  pub answers : IsAnswer course gots call.meter.after answer
  pub is : Outcome call.files.before.told course call.meter.after answer
  pub same : call.status ≡ answer.status
  pub whole : call.sink.after.taken ≡ with_more call.sink.before.taken answer.text

module _ (course : Course) (call : Call) (f : IsCarriedOut course call) where
  said_answer : (a : Option Answer) → IfSome a (IsAnswer course f.says.gots call.meter.after)
      → call.status ≡ (unwrap_or a memory_answer).status
      → call.sink.after.taken ≡ with_more call.sink.before.taken
      (unwrap_or a memory_answer).text → NotExcused call.status → Said course call
  said_answer None h same whole not = absurd (not.memory same)
  said_answer (Some a) h same whole not =
      record {
        answer = a;
        gots = f.says.gots;
        answers = h;
        is = outcome call.files.before.told course f.says.gots call.meter.after a f.says.are_told
            (λ r. not.read_fault (same ∙ r)) h;
        same = same;
        whole = whole;
      }

  pub said : NotExcused call.status → Said course call
  said not = elim f.delivers [
    | inl all ↦ said_answer f.answer f.says.answers all.same all.whole not
    | inr cut ↦ absurd (not.write_fault cut.told)
  ]

  pub said_with : (s : Status) → call.status ≡ s → s ≢ status.Memory → s ≢ status.ReadFault
      → s ≢ status.WriteFault → Said course call
  said_with s is memory r w = said (not_excused call.status s is memory r w)

  pub yes_said : call.status ≡ status.Yes → Said course call
  yes_said is = said_with status.Yes is (λ h. cc) (λ h. cc) (λ h. cc)

  pub written : (P : List ℕ → Type 0) → (s : Said course call) → P s.answer.text → Wrote call.sink P
  written P s shown = record { text = s.answer.text; whole = s.whole; is = shown }

  refuses : (t : Status) → IsFaultOrWide t → IsRefusing t
  refuses t (inl is) = refusing_fault t is
  refuses t (inr is) = refusing_wide t is

  pub refusal_told : (t : Status) → IsFaultOrWide t → (R : Answer → Type 0)
      → ((s : Said course call) → s.answer.status ≡ t → IsRefusing s.answer.status → R s.answer)
      → call.status ≡ t → Wrote call.sink (λ said. R (with_text t said))
  refusal_told t is R told h =
      let settled = (refuses t is).plain.settled in
      let s = said_with t h settled.memory_not settled.read_not settled.write_not in
      let same : s.answer.status ≡ t = sym s.same ∙ h in
      written (λ said. R (with_text t said)) s
      (subst (λ u. R (with_text u s.answer.text)) same
      (told s same (subst IsRefusing (sym same) (refuses t is))))

  pub or_excused : {P : Type 0} → (Said course call → P) → IsExcused call.status ⊎ P
  or_excused g = elim (excused_or call.status) [
    | inl excused ↦ inl excused
    | inr not ↦ inr (g (said not))
  ]

  ends_with : (a : Answer) → (s : Said course call) → s.answer ≡ a
      → (call.status ≡ a.status) × (call.sink.after.taken ≡ with_more call.sink.before.taken a.text)
  ends_with a s e = (
    s.same ∙ status_of e,
    s.whole
        ∙ ap (with_more call.sink.before.taken) (text_of e),
  )

  pub ends_so : (a : Answer) → ((s : Said course call) → s.answer ≡ a) → Ends call a
  ends_so a g = elim (or_excused (λ s. ends_with a s (g s)))
      [ inl excused ↦ inr excused | inr answered ↦ inl answered ]

  pub or_wide : (a : Answer)
      → ((s : Said course call) → (s.answer ≡ a) ⊎ (s.answer.status ≡ status.Wide))
      → EndsOrWide call a
  or_wide a g = elim (or_excused (λ s. go s (g s))) [ inl excused ↦ inl (inr excused) | inr h ↦ h ]
    where
      go : (s : Said course call) → (s.answer ≡ a) ⊎ (s.answer.status ≡ status.Wide)
          → EndsOrWide call a
      go s (inl is) = inl (inl (ends_with a s is))
      go s (inr is) = inr (s.same ∙ is)

  pub or_fault : ((s : Said course call) → (s.answer.status ≡ status.Fault)
      ⊎ (s.answer.status ≡ status.Wide)) → EndsAtFault call.status
  or_fault g = elim (or_excused (λ s. go s (g s))) [ inl excused ↦ inr (inr excused) | inr h ↦ h ]
    where
      go : (s : Said course call) → (s.answer.status ≡ status.Fault)
          ⊎ (s.answer.status ≡ status.Wide) → EndsAtFault call.status
      go s (inl says) = inl (s.same ∙ says)
      go s (inr says) = inr (inl (s.same ∙ says))

  pub or_yes : ((s : Said course call) → s.answer.status ≡ status.Yes) → (call.status ≡ status.Yes)
      ⊎ IsExcused call.status
  or_yes g = elim (or_excused (λ s. s.same ∙ g s))
      [ inl excused ↦ inr excused | inr says ↦ inl says ]

  pub meter_left : (call.meter.after ≡ call.meter.before)
      ⊎ LeftBy call.files.before.told course call.meter.after
  meter_left = meter_told call.files.before.told course f.says.gots call.meter.before
      call.meter.after f.says.are_told f.says.keeps

  pub meter_kept : IsSilent course → call.meter.after ≡ call.meter.before
  meter_kept silent = silent_kept course f.says.gots call.meter.before call.meter.after silent
      f.says.keeps

  never_said : (s : Status) (a : Option Answer)
      → IfSome a (IsAnswer course f.says.gots call.meter.after) → s ≢ status.Memory
      → s ≢ status.ReadFault → EachAnswer (λ a. a.status ≢ s) course
      → (unwrap_or a memory_answer).status ≢ s
  never_said s None h memory r each is = memory (sym is)
  never_said s (Some a) h memory r each is =
      elim (each_answered (λ a. a.status ≢ s) course f.says.gots call.meter.after a each h) [
        | inl bad ↦ r (sym is ∙ bad)
        | inr not ↦ not is
      ]

  -- a status that no answer by what the files hold has
  pub never : (s : Status) → s ≢ status.Memory → s ≢ status.ReadFault → s ≢ status.WriteFault
      → EachAnswer (λ a. a.status ≢ s) course → call.status ≢ s
  never s memory r w each is = elim f.delivers [
    | inl all ↦ never_said s f.answer f.says.answers memory r each (sym all.same ∙ is)
    | inr cut ↦ w (sym is ∙ cut.told)
  ]
