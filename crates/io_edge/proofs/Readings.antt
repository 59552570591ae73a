-- Courses that begin by reading a file as something.
--   fault_is              the refusal tells the fault that the reader answered
--   refused_says          the file is refused
--   reading_says          the file is something, and the course goes on;  reading_ends: and ends
--   each_answer, silent   what holds of each answer, and what is left in the meter
--   is_silent             the course leaves the meter alone where whatever it goes on with does
--   at_something, at_fault    the outcome where the bytes are told;  on_reading: what follows for each text that is told
use Rattle.std.proofs.Common.{◌≡◌, ℕ, List, refl, sym, subst, ap, ◌∙◌, Result, Ok, Err, inl, inr}
use Rattle.std.specs.Prelude.{Option, Some, None, IfSome, option_map}
use Rattle.std.specs.declared.alloc.AllocError.{AllocError}
use Rattle.io_edge.specs.Outside.{FilesView}
use Rattle.machines.specs.Journal.{Journal}
use Rattle.io_edge.specs.declared.answer.Answer as made
use Rattle.io_edge.specs.Texts.{Answer}
use Rattle.io_edge.specs.Views.{seen_answer}
use Rattle.io_edge.specs.declared.refusal.Refusal.{Refusal}
use Rattle.io_edge.specs.Refusals.{seen_refusal}
use Rattle.io_edge.specs.Course.{File, Course, Outcome, IsSilent, EachAnswer}
use Rattle.io_edge.specs.Outcome.{Call, Says}
use Rattle.io_edge.specs.Change.{Change, ◌⟶◌}
use Rattle.io_edge.specs.Reading.{by_reading, with_file, IsFaultOf, HasReadAs, IsRefusedAt, SaysOf}
use Rattle.io_edge.proofs.Going.{unheard, at_end, reads_on, stops_at}
use Rattle.io_edge.proofs.Outcomes.{at_some, if_told}

module _ {X F : Type 0} (reading : List ℕ → Result X F) (refusal_of : F → Answer) where
  pub fault_is : (f : Option F) (text : List ℕ) (a : Answer)
      → IfSome (option_map Err f) (λ r. r ≡ reading text) → option_map refusal_of f ≡ Some a
      → IsFaultOf reading refusal_of text a
  fault_is None text a is says = absurd (cc)
  fault_is (Some fault) text a is says = record { fault = fault; is = sym is; says = (cc) }

  module _ (next : X → Course) where
    fault_says : (text : List ℕ) (files : Change FilesView) (m : Journal)
        (answer : Option Answer) (said : Result X F)
        → reading text ≡ said → files.after.reads ≡ files.before.reads
        → files.after.tries ≡ files.before.tries
        → IfSome answer (IsFaultOf reading refusal_of text)
        → Says (by_reading reading refusal_of said next) files (m ⟶ m) answer
    fault_says text files m None said is unread untried h =
        unheard files (by_reading reading refusal_of said next) m unread untried
    fault_says text files m (Some a) (Ok x) is unread untried h =
        absurd (let e : Ok x ≡ Err h.fault = sym is ∙ h.is in let z : ⊥ = cc in z)
    fault_says text files m (Some a) (Err fault) is unread untried h =
        let same : h.fault ≡ fault = (let e : Err h.fault ≡ Err fault = sym h.is ∙ is in cc) in
        at_end files _ _ m m (Some a) unread untried (inl refl) (h.says ∙ ap refusal_of same)

    says_refusal : (file : File) (before after : FilesView) (m : Journal) (refusal : Refusal)
        → IsRefusedAt reading refusal_of file (before ⟶ after) refusal
        → Says (with_file reading refusal_of file next) (before ⟶ after) (m ⟶ m)
        (seen_refusal refusal)
    says_refusal file before after m refusal (inl unread) =
        stops_at (before ⟶ after) file _ unread.0 m (seen_refusal refusal) unread.1 unread.2
    says_refusal file before after m refusal (inr fault) =
        reads_on file _ fault.0 before after after (m ⟶ m) (seen_refusal refusal) fault.1
        (fault_says fault.0 _ m (seen_refusal refusal) (reading fault.0) refl refl refl fault.2)

    pub refused_says : (file : File) (before after : FilesView) (m : Journal) (refusal : Refusal)
        (r : Result made.Answer AllocError)
        → IsRefusedAt reading refusal_of file (before ⟶ after) refusal
        → seen_answer r ≡ seen_refusal refusal
        → Says (with_file reading refusal_of file next) (before ⟶ after) (m ⟶ m) (seen_answer r)
    refused_says file before after m refusal r h same =
        subst (Says (with_file reading refusal_of file next) (before ⟶ after) (m ⟶ m))
        (sym same) (says_refusal file before after m refusal h)

    pub reading_says : (file : File) (before between after : FilesView) (x : X)
        (meter : Change Journal) (answer : Option Answer)
        → HasReadAs reading file x (before ⟶ between)
        → Says (next x) (record between { told = before.told } ⟶ after) meter answer
        → Says (with_file reading refusal_of file next) (before ⟶ after) meter answer
    reading_says file before between after x meter answer h s =
        reads_on file _ h.text before between after meter answer h.read
        (subst (λ r. Says (by_reading reading refusal_of r next)
        (record between { told = before.told } ⟶ after) meter answer)
        (sym h.says) s)

    pub reading_ends : (file : File) (before after : FilesView) (x : X) (meter : Change Journal)
        (answer : Option Answer) → HasReadAs reading file x (before ⟶ after)
        → Says (next x) (record after { told = before.told } ⟶ after) meter answer
        → Says (with_file reading refusal_of file next) (before ⟶ after) meter answer
    reading_ends file before after x meter answer h s =
        reading_says file before after after x meter answer h s

    -- ---- what holds of each answer
    by_reading_each : (P : Answer → Type 0)
        → ((fault : F) (a : Answer) → a ≡ refusal_of fault → P a)
        → ((x : X) → EachAnswer P (next x))
        → (said : Result X F) → EachAnswer P (by_reading reading refusal_of said next)
    by_reading_each P fault each (Ok x) = each x
    by_reading_each P fault each (Err f) = λ m a h. fault f a h

    pub each_answer : (P : Answer → Type 0) (file : File)
        → ((fault : F) (a : Answer) → a ≡ refusal_of fault → P a)
        → ((x : X) → EachAnswer P (next x))
        → EachAnswer P (with_file reading refusal_of file next)
    each_answer P file fault each = λ text. by_reading_each P fault each (reading text)

    by_reading_silent : ((x : X) → IsSilent (next x))
        → (said : Result X F) → IsSilent (by_reading reading refusal_of said next)
    by_reading_silent each (Ok x) = each x
    by_reading_silent each (Err f) = λ m h. h

    pub is_silent : (file : File) → ((x : X) → IsSilent (next x))
        → IsSilent (with_file reading refusal_of file next)
    is_silent file each = λ text. by_reading_silent each (reading text)

  -- ---- where the bytes are told
  module _ (call : Call) (file : File) (next : X → Course) (m : Journal) (a : Answer)
      (is : Outcome call.files.before.told (with_file reading refusal_of file next) m a) where
    at_said : (said : Result X F) → SaysOf reading call file said
        → Outcome call.files.before.told (by_reading reading refusal_of said next) m a
    at_said said h =
        subst (λ r. Outcome call.files.before.told (by_reading reading refusal_of r next) m a)
        h.reads
        (at_some (call.files.before.told file.name) h.text
        (λ text. Outcome call.files.before.told
        (by_reading reading refusal_of (reading text) next) m a)
        h.is_told is)

    pub at_something : (x : X) → SaysOf reading call file (Ok x)
        → Outcome call.files.before.told (next x) m a
    at_something x h = at_said (Ok x) h

    pub at_fault : (fault : F) → SaysOf reading call file (Err fault) → a ≡ refusal_of fault
    at_fault fault h = at_said (Err fault) h

    pub on_reading : (P : List ℕ → Type 0)
        → ((text : List ℕ) → IsFaultOf reading refusal_of text a → P text)
        → ((text : List ℕ) (x : X) → reading text ≡ Ok x
        → Outcome call.files.before.told (next x) m a → P text)
        → IfSome (call.files.before.told file.name) P
    on_reading P fault something =
        if_told (call.files.before.told file.name) _ P (λ text h. go text (reading text) refl h) is
      where
        go : (text : List ℕ) (said : Result X F) → reading text ≡ said
            → Outcome call.files.before.told (by_reading reading refusal_of said next) m a → P text
        go text (Ok x) e h = something text x e h
        go text (Err f) e h = fault text (record { fault = f; is = e; says = h })
