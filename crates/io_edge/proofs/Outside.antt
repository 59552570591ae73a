-- Faults of the outside: told only where a read or a write ended so, and always there.
--   outside           of each course whose answers are settled
--   outside_unasked   of arguments that are no command
--   usage_not         the usage line answers no command
--   too_long_told     a file that is told to be longer than its limit is too long, where no read fails
use Rattle.std.proofs.Common.{◌≡◌, ◌≢◌, ℕ, ◌<◌, ◌≤◌, List, [], ◌∷◌, ◌++◌, length, Ok, Err, inl, inr, refl, sym, ap, subst, ◌∙◌, arith}
use Rattle.std.specs.Prelude.{◌⊎◌, true, false, drop, Option, Some, None, IfSome, unwrap_or}
use Rattle.std.proofs.Math.Seq.{drop-append_seam}
use Rattle.std.proofs.lemmas.List.{append-nil}
use Rattle.io_edge.specs.declared.files.FilesError.{FilesError}
use Rattle.io_edge.specs.declared.files.FilesError.TheVariants.{TooLong, Failed, Memory}
use Rattle.io_edge.specs.declared.files.ReadEnd.TheVariants as read
use Rattle.io_edge.specs.Reads.{Entry, entries_of}
use Rattle.io_edge.specs.Bytes.{with_more}
use Rattle.io_edge.specs.Outside.{FilesView}
use Rattle.machines.specs.Journal.{Journal}
use Rattle.io_edge.specs.declared.answer.Status.TheVariants as status
use Rattle.io_edge.specs.Texts.{Answer, with_text, unread, too_long, memory_answer}
use Rattle.io_edge.specs.Settled.{IsSettled}
use Rattle.io_edge.specs.Course.{File, Got, Course, reads, ends, entries, IsTold, AreTold, IsAnswer, EachAnswer, ComesTo}
use Rattle.io_edge.specs.Outcome.{Call, IsCarriedOut, IsUnasked}
use Rattle.io_edge.specs.Clauses.{Wrote, told_end, IsLonger, EndsBadly, EndsTooLong, IsOutside, are_bad, fails, adds_bad}
use Rattle.io_edge.proofs.OfStatuses.{status_of, text_of, unread_status}
use Rattle.io_edge.proofs.Outcomes.{each_answered, never}

-- ---- only there
-- the last of these entries gave no bytes, and this was said of it
record LastIsBad (es : List Entry) (said : List ℕ) : Type 0 where
  before : List Entry
  last : Entry
  are : es ≡ before ++ last ∷ []
  says : told_end last ≡ Some (with_text status.ReadFault said)

unread_last : (file : File) (e : FilesError) (a : Answer) → unread file.name e ≡ Some a
    → LastIsBad (entries_of {T = List ℕ} (Err e) file.name file.limit) a.text
unread_last file TooLong a is =
    record {
      before = [];
      last = record { name = file.name; limit = file.limit; ending = read.TooLong };
      are = refl;
      says =
          is ∙ ap Some (let x : a.status ≡ status.ReadFault = cc in ap (λ s. with_text s a.text) x);
    }
unread_last file Failed a is =
    record {
      before = [];
      last = record { name = file.name; limit = file.limit; ending = read.Failed };
      are = refl;
      says = is
          ∙ ap Some (let x : a.status ≡ status.ReadFault = cc in ap (λ s. with_text s a.text) x);
    }
unread_last file Memory a is = absurd (cc)

last_bad : (course : Course) (gots : List Got) (m : Journal) (a : Answer)
    → EachAnswer (λ a. IsSettled a.status) course → IsAnswer course gots m a
    → a.status ≡ status.ReadFault → LastIsBad (entries course gots) a.text
last_bad (reads file next) [] m a each h is = absurd h
last_bad (reads file next) (Err e ∷ gots) m a each h is = unread_last file e a h
last_bad (reads file next) (Ok bytes ∷ gots) m a each h is =
    let rest = last_bad (next bytes) gots m a (each bytes) h is in
    record {
      before = record { name = file.name; limit = file.limit; ending = read.Whole } ∷ rest.before;
      last = rest.last;
      are = ap (λ es. record { name = file.name; limit = file.limit; ending = read.Whole } ∷ es)
          rest.are;
      says = rest.says;
    }
last_bad (ends Leaves Answers) gots m a each h is = absurd ((each m a h).read_not is)

-- ---- always there
bad : (course : Course) (gots : List Got) (m : Journal) (a : Answer)
    → are_bad (entries course gots) ≡ true → IsAnswer course gots m a → a.status ≡ status.ReadFault
bad (reads file next) [] m a h is = absurd is
bad (reads file next) (Err e ∷ gots) m a h is = unread_status file.name e a is
bad (reads file next) (Ok bytes ∷ gots) m a h is = bad (next bytes) gots m a h is
bad (ends Leaves Answers) gots m a h is = absurd (let x : false ≡ true = h in cc)

-- ---- a file that is longer than its limit
within_told : (told : Option (List ℕ)) (limit : ℕ) (bytes content : List ℕ) → told ≡ Some content
    → IsTold told limit (Ok bytes) → (bytes ≡ content) × (length content ≤ limit)
within_told told limit bytes content is h =
    let same : bytes ≡ content = subst (λ t. IfSome t (λ c. bytes ≡ c)) is h.0 in
    (same, subst (λ c. length c ≤ limit) same h.1)

module _ (files : FilesView) (m : Journal) (a : Answer) where
  long_first : (first : File) (next : List ℕ → Course) (gots : List Got) → IsLonger files first
      → AreTold files.told (reads first next) gots → IsAnswer (reads first next) gots m a
      → (a ≡ too_long first.name) ⊎ (fails (entries (reads first next) gots) ≡ true)
  long_first first next [] l are h = absurd h
  long_first first next (Err TooLong ∷ gots) l are h =
      inl (let x : Some (too_long first.name) ≡ Some a = h in cc)
  long_first first next (Err Failed ∷ gots) l are h = inr refl
  long_first first next (Err Memory ∷ gots) l are h = absurd (let x : None ≡ Some a = h in cc)
  long_first first next (Ok bytes ∷ gots) l are h =
      let within = (within_told
      (files.told first.name) first.limit bytes l.content l.is_told are.0).1 in
      let longer = l.longer in
      absurd (omega (arith, within, longer))

  long_told : (course : Course) (gots : List Got) (file : File) → ComesTo files.told course file
      → IsLonger files file → AreTold files.told course gots → IsAnswer course gots m a
      → (a ≡ too_long file.name) ⊎ (fails (entries course gots) ≡ true)
  long_told (ends Leaves Answers) gots file comes l are h = absurd comes
  long_told (reads first next) gots file (inl same) l are h =
      subst (λ f. (a ≡ too_long f.name) ⊎ (fails (entries (reads first next) gots) ≡ true)) same
      (long_first first next gots (subst (IsLonger files) (sym same) l) are h)
  long_told (reads first next) [] file (inr past) l are h = absurd h
  long_told (reads first next) (Err TooLong ∷ gots) file (inr past) l are h =
      let longer : first.limit < length past.0 =
      subst (λ t. IsTold t first.limit (Err TooLong)) past.1 are.0 in
      let short = past.2 in
      absurd (omega (arith, longer, short))
  long_told (reads first next) (Err Failed ∷ gots) file (inr past) l are h = inr refl
  long_told (reads first next) (Err Memory ∷ gots) file (inr past) l are h =
      absurd (let x : None ≡ Some a = h in cc)
  long_told (reads first next) (Ok bytes ∷ gots) file (inr past) l are h =
      let same = (within_told (files.told first.name) first.limit bytes past.0 past.1 are.0).0 in
      long_told (next bytes) gots file
      (subst (λ t. ComesTo files.told (next t) file) (sym same) past.3) l are.1 h

usages : (course : Course) → EachAnswer (λ a. IsSettled a.status) course
    → EachAnswer (λ a. a.status ≢ status.Usage) course
usages (reads file next) each = λ bytes. usages (next bytes) (each bytes)
usages (ends Leaves Answers) each = λ m a h. (each m a h).usage_not

module _ (course : Course) (call : Call) (f : IsCarriedOut course call) where
  added : drop (length call.files.before.reads) call.files.after.reads ≡ entries course f.says.gots
  added = ap (drop (length call.files.before.reads)) f.says.added
      ∙ drop-append_seam call.files.before.reads (entries course f.says.gots)

  -- ---- a file that is too long
  pub too_long_told : (file : File) → ComesTo call.files.before.told course file
      → IsLonger call.files.before file → EndsTooLong call file.name
  too_long_told file comes long = elim f.delivers [
    | inl all ↦ go f.answer f.says.answers all.same all.whole
    | inr cut ↦ inr (inr (inr cut.told))
  ]
    where
      go : (a : Option Answer) → IfSome a (IsAnswer course f.says.gots call.meter.after)
          → call.status ≡ (unwrap_or a memory_answer).status
          → call.sink.after.taken ≡ with_more call.sink.before.taken
          (unwrap_or a memory_answer).text → EndsTooLong call file.name
      go None h same whole = inr (inr (inl same))
      go (Some a) h same whole =
          elim (long_told call.files.before call.meter.after a course f.says.gots file comes long
          f.says.are_told h) [
            | inl is ↦ inl (
              same ∙ status_of is,
              whole
                  ∙ ap (with_more call.sink.before.taken) (text_of is),
            )
            | inr failed ↦ inr (inl (ap fails added ∙ failed))
          ]

  -- ---- faults
  module _ (settled : EachAnswer (λ a. IsSettled a.status) course) where
    bad_last : (a : Option Answer) → IfSome a (IsAnswer course f.says.gots call.meter.after)
        → (unwrap_or a memory_answer).status ≡ status.ReadFault
        → EndsBadly call.files (unwrap_or a memory_answer).text
    bad_last None h is = absurd (cc)
    bad_last (Some a) h is =
        let last = last_bad course f.says.gots call.meter.after a settled h is in
        record {
          before = last.before;
          last = last.last;
          added = f.says.added
              ∙ ap (λ es. call.files.before.reads ++ es) last.are;
          says = last.says;
        }

    read_fault : call.status ≡ status.ReadFault → Wrote call.sink (EndsBadly call.files)
    read_fault is = elim f.delivers [
      | inl all ↦ record {
        text = (unwrap_or f.answer memory_answer).text;
        whole = all.whole;
        is = bad_last f.answer f.says.answers (sym all.same ∙ is);
      }
      | inr cut ↦ absurd (let x : status.ReadFault ≡ status.WriteFault = sym is ∙ cut.told in cc)
    ]

    bad_if : (a : Option Answer) → are_bad (entries course f.says.gots) ≡ true
        → IfSome a (IsAnswer course f.says.gots call.meter.after)
        → ((unwrap_or a memory_answer).status ≡ status.ReadFault)
        ⊎ ((unwrap_or a memory_answer).status ≡ status.Memory)
    bad_if None h is = inr refl
    bad_if (Some a) h is = inl (bad course f.says.gots call.meter.after a h is)

    bad_read : adds_bad call.files ≡ true → (call.status ≡ status.ReadFault)
        ⊎ ((call.status ≡ status.Memory) ⊎ (call.status ≡ status.WriteFault))
    bad_read is =
        let has_bad : are_bad (entries course f.says.gots) ≡ true = sym (ap are_bad added) ∙ is in
        elim f.delivers [
          | inl all ↦ elim (bad_if f.answer has_bad f.says.answers) [
            | inl fault ↦ inl (all.same ∙ fault)
            | inr memory ↦ inr (inl (all.same ∙ memory))
          ]
          | inr cut ↦ inr (inr cut.told)
        ]

    not_written : (a : Option Answer) → IfSome a (IsAnswer course f.says.gots call.meter.after)
        → (unwrap_or a memory_answer).status ≢ status.WriteFault
    not_written None h is = cc
    not_written (Some a) h is =
        go (each_answered (λ a. IsSettled a.status) course f.says.gots call.meter.after a settled h)
      where
        go : (a.status ≡ status.ReadFault) ⊎ IsSettled a.status → ⊥
        go (inl r) = let x : status.ReadFault ≡ status.WriteFault = sym r ∙ is in cc
        go (inr s) = s.write_not is

    pub outside : IsOutside call
    outside = record {
      read_fault = read_fault;
      bad_read = bad_read;
      write_fault = λ is. elim f.delivers [
        | inl all ↦ absurd (not_written f.answer f.says.answers (sym all.same ∙ is))
        | inr cut ↦ cut.failed
      ];
      written = λ rose. elim f.delivers [
        | inl all ↦ absurd (let well = all.well in omega (arith, well, rose))
        | inr cut ↦ cut.told
      ];
    }

    pub usage_not : call.status ≢ status.Usage
    usage_not = never course call f status.Usage (λ h. cc) (λ h. cc) (λ h. cc)
        (usages course settled)

-- ---- arguments that are no command
module _ (usage : List ℕ) (call : Call) (f : IsUnasked (with_text status.Usage usage) call) where
  none_added : drop (length call.files.before.reads) call.files.after.reads ≡ []
  none_added = ap (drop (length call.files.before.reads)) (f.idle.unread
      ∙ sym (append-nil call.files.before.reads)) ∙ drop-append_seam call.files.before.reads []

  pub outside_unasked : IsOutside call
  outside_unasked = record {
    read_fault = λ is. elim f.delivers [
      | inl all ↦ absurd (let x : status.Usage ≡ status.ReadFault = sym all.same ∙ is in
          let z : ⊥ = cc in z)
      | inr cut ↦ absurd (let x : status.ReadFault ≡ status.WriteFault = sym is ∙ cut.told in
          let z : ⊥ = cc in z)
    ];
    bad_read = λ is. absurd (let x : false ≡ true = sym (ap are_bad none_added) ∙ is in
        let z : ⊥ = cc in z);
    write_fault = λ is. elim f.delivers [
      | inl all ↦ absurd (let x : status.Usage ≡ status.WriteFault = sym all.same ∙ is in
          let z : ⊥ = cc in z)
      | inr cut ↦ cut.failed
    ];
    written = λ rose. elim f.delivers [
      | inl all ↦ absurd (let well = all.well in omega (arith, well, rose))
      | inr cut ↦ cut.told
    ];
  }
