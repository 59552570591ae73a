-- What a command promises that reads one file as something, and then ends.
--   Concludes t               a status that answers to what was read may have, and no refusal has
--   concludes_yes, concludes_no, concludes_exhausted      so a yes, a no, an exhausted budget
--   OneFile X F               the file, how it is read, the answer to a fault, and the end behind what was read;  course_of: its course;  next: the end, as a course
--   settled                   its answers are settled
--   answered, ends_at_fault   the answer where the bytes are told
--   tells, writes             what holds of the file, and what is written, where the answer concludes
--   refused                   what is written where it is a fault, or a number that doesn't fit
--   never_ends, not_ended     a status that no answer has, and none to this
--   left, kept                what is left in the meter
--   long                      the file is too long
use Rattle.std.proofs.Common.{◌≡◌, ◌≢◌, ℕ, List, refl, sym, ◌∙◌, Result, Ok, Err, inl, inr}
use Rattle.std.specs.Prelude.{◌⊎◌}
use Rattle.machines.specs.Journal.{Journal}
use Rattle.io_edge.specs.declared.answer.Status.{Status}
use Rattle.io_edge.specs.declared.answer.Status.TheVariants as status
use Rattle.io_edge.specs.Texts.{Answer, with_text}
use Rattle.io_edge.specs.Settled.{IsSettled, IsRefusing}
use Rattle.io_edge.specs.Course.{File, Course, ends, LeftBy, EachAnswer}
use Rattle.io_edge.specs.Outcome.{Call, IsCarriedOut}
use Rattle.io_edge.specs.Reading.{by_reading, with_file, IsFaultOf, SaysOf}
use Rattle.io_edge.specs.Clauses.{Wrote, IfTold, IsFaultOrWide, Ends, EndsTooLong, IsLonger}
use Rattle.io_edge.proofs.OfStatuses.{settled_yes, settled_no, settled_budget}
use Rattle.io_edge.proofs.Outcomes.{Said, said_with, if_told, written, ends_so, refusal_told, never, meter_left, meter_kept}
use Rattle.io_edge.proofs.Outside.{too_long_told}
use Rattle.io_edge.proofs.Readings.{each_answer, is_silent, at_something, at_fault, on_reading}

pub record Concludes (t : Status) : Type 0 where
  pub settled : IsSettled t
  pub no_refusal : (s : Status) → IsRefusing s → s ≢ t

pub concludes_yes : Concludes status.Yes
concludes_yes = record { settled = settled_yes _ refl; no_refusal = λ s r. r.yes_not }

pub concludes_no : Concludes status.No
concludes_no = record { settled = settled_no _ refl; no_refusal = λ s r. r.no_not }

pub concludes_exhausted : Concludes status.Budget
concludes_exhausted = record {
  settled = settled_budget _ refl;
  no_refusal =
      λ s r. r.plain.budget_not;
}

pub record OneFile (X F : Type 0) : Type 1 where
  pub reading : List ℕ → Result X F
  pub refusal_of : F → Answer
  pub refuses : (fault : F) (a : Answer) → a ≡ refusal_of fault → IsRefusing a.status
  pub file : File
  pub Leaves : X → Journal → Type 0
  pub Answers : X → Journal → Answer → Type 0

module _ {X F : Type 0} (c : OneFile X F) where
  abbrev pub next : X → Course
  next x = ends (c.Leaves x) (c.Answers x)

  abbrev pub course_of : Course
  course_of = with_file c.reading c.refusal_of c.file next

  pub settled : ((x : X) (m : Journal) (a : Answer) → c.Answers x m a → IsSettled a.status)
      → EachAnswer (λ a. IsSettled a.status) course_of
  settled each = each_answer c.reading c.refusal_of next (λ a. IsSettled a.status) c.file
      (λ fault a is. (c.refuses fault a is).plain.settled) each

  module _ (call : Call) (f : IsCarriedOut course_of call) where
    abbrev m : Journal
    m = call.meter.after

    -- ---- where the bytes are told
    pub answered : (x : X) → SaysOf c.reading call c.file (Ok x) → (s : Said course_of call)
        → c.Answers x m s.answer
    answered x r s = at_something c.reading c.refusal_of call c.file next m s.answer s.is x r

    pub ends_at_fault : (fault : F) → SaysOf c.reading call c.file (Err fault)
        → Ends call (c.refusal_of fault)
    ends_at_fault fault r = ends_so course_of call f (c.refusal_of fault)
        (λ s. at_fault c.reading c.refusal_of call c.file next m s.answer s.is fault r)

    -- ---- a status that concludes
    module _ {t : Status} (is : Concludes t) where
      said_so : call.status ≡ t → Said course_of call
      said_so h = said_with course_of call f t h is.settled.memory_not is.settled.read_not
          is.settled.write_not

      on_answer : (s : Said course_of call) → call.status ≡ t → (P : List ℕ → Type 0)
          → ((text : List ℕ) (x : X) → c.reading text ≡ Ok x → c.Answers x m s.answer
          → s.answer.status ≡ t → P text) → IfTold call.files.before c.file.name P
      on_answer s h P told =
          let same : s.answer.status ≡ t = sym s.same ∙ h in
          on_reading c.reading c.refusal_of call c.file next m s.answer s.is P
          (λ text k. absurd (is.no_refusal _ (c.refuses k.fault s.answer k.says) same))
          (λ text x e k. told text x e k same)

      pub tells : (P : List ℕ → Type 0)
          → ((text : List ℕ) (x : X) (a : Answer) → c.reading text ≡ Ok x → c.Answers x m a
          → a.status ≡ t → P text)
          → call.status ≡ t → IfTold call.files.before c.file.name P
      tells P told h =
          let s = said_so h in
          on_answer s h P (λ text x. told text x s.answer)

      pub writes : (P : List ℕ → List ℕ → Type 0)
          → ((text : List ℕ) (x : X) (a : Answer) → c.reading text ≡ Ok x → c.Answers x m a
          → a.status ≡ t → P text a.text)
          → call.status ≡ t
          → IfTold call.files.before c.file.name (λ text. Wrote call.sink (P text))
      writes P told h =
          let s = said_so h in
          on_answer s h (λ text. Wrote call.sink (P text))
          (λ text x e k same. written course_of call f (P text) s (told text x s.answer e k same))

      pub never_ends : ((x : X) (j : Journal) (a : Answer) → c.Answers x j a → a.status ≢ t)
          → call.status ≢ t
      never_ends each =
          never course_of call f t is.settled.memory_not is.settled.read_not is.settled.write_not
          (each_answer c.reading c.refusal_of next (λ a. a.status ≢ t) c.file
          (λ fault a h. is.no_refusal _ (c.refuses fault a h)) each)

      pub not_ended : (x : X) → SaysOf c.reading call c.file (Ok x)
          → ((a : Answer) → c.Answers x m a → a.status ≢ t) → call.status ≢ t
      not_ended x r not h =
          let s = said_so h in
          not s.answer (answered x r s) (sym s.same ∙ h)

    -- ---- a fault, or a number that doesn't fit
    pub refused : (t : Status) → IsFaultOrWide t → (P : List ℕ → Answer → Type 0)
        → ((text : List ℕ) (x : X) (a : Answer) → c.reading text ≡ Ok x → c.Answers x m a
        → a.status ≡ t → IsRefusing a.status → P text a)
        → call.status ≡ t
        → Wrote call.sink (λ said. IfTold call.files.before c.file.name
        (λ text. IsFaultOf c.reading c.refusal_of text (with_text t said)
        ⊎ P text (with_text t said)))
    refused t is P told =
        refusal_told course_of call f t is
        (λ a. IfTold call.files.before c.file.name
        (λ text. IsFaultOf c.reading c.refusal_of text a ⊎ P text a))
        (λ s same refusing. on_reading c.reading c.refusal_of call c.file next m s.answer s.is
        (λ text. IsFaultOf c.reading c.refusal_of text s.answer ⊎ P text s.answer)
        (λ text k. inl k) (λ text x e k. inr (told text x s.answer e k same refusing)))

    -- ---- the meter
    module _ (P : List ℕ → Type 0)
        (told : (text : List ℕ) (x : X) → c.reading text ≡ Ok x → c.Leaves x m → P text) where
      left_by : (text : List ℕ) (said : Result X F) → c.reading text ≡ said
          → LeftBy call.files.before.told (by_reading c.reading c.refusal_of said next) m → P text
      left_by text (Ok x) e h = told text x e h
      left_by text (Err fault) e h = absurd h

      pub left : (m ≡ call.meter.before) ⊎ IfTold call.files.before c.file.name P
      left = elim (meter_left course_of call f) [
        | inl same ↦ inl same
        | inr h ↦ inr (if_told (call.files.before.told c.file.name) _ _
            (λ text. left_by text (c.reading text) refl) h)
      ]

    pub kept : ((x : X) (j : Journal) → c.Leaves x j → ⊥) → m ≡ call.meter.before
    kept none = meter_kept course_of call f (is_silent c.reading c.refusal_of next c.file none)

    pub long : IsLonger call.files.before c.file → EndsTooLong call c.file.name
    long h = too_long_told course_of call f c.file (inl refl) h
