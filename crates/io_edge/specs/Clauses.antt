-- Words for the clauses of a call.
--   Wrote sink P               the sink took a text, and P holds of it
--   IfTold files name P        P of the bytes of this file, if they are told
--   IsExcused s                want of memory, or a fault of the outside
--   Ends call a                the call ends with the answer a, or is excused;  EndsOrWide: or with a number that doesn't fit
--   IsFaultOrWide s            a fault, or a number that doesn't fit
--   TellsWhy call R            where the call ends so, R holds of the answer with its status that it wrote
--   EndsAtFault s              it ends with a fault, or with a number that doesn't fit, or is excused
--   told_end entry             the answer that tells how a read ended, where it gave no bytes
--   IsLonger files file        more bytes than its limit are told of the file
--   added_reads files          the reads that were added
--   EndsBadly files said       the last of the reads that were added gave no bytes, and this was said of it
--   adds_bad files             whether a read that was added gave no bytes;  adds_failed: whether one failed
--   EndsTooLong call name      the answer is that the file is too long, unless a read failed, a write did, or memory
--   IsOutside call             a read fault tells a read that was added and gave no bytes, and where one is added so the call ends, but for want of memory and a failing write; the write fault comes exactly where the sink counts a fault more
use Rattle.std.specs.Prelude.{◌≡◌, ◌⊎◌, ◌<◌, ℕ, Bool, true, false, List, [], ◌∷◌, ◌++◌, length, drop, Option, Some, None, IfSome}
use Rattle.std.specs.List.{list_any}
use Rattle.io_edge.specs.declared.files.ReadEnd.{ReadEnd}
use Rattle.io_edge.specs.declared.files.ReadEnd.TheVariants as read
use Rattle.io_edge.specs.declared.files.FilesError.TheVariants.{TooLong, Failed}
use Rattle.io_edge.specs.Reads.{Entry}
use Rattle.io_edge.specs.Bytes.{with_more}
use Rattle.io_edge.specs.Outside.{FilesView, SinkView}
use Rattle.io_edge.specs.declared.answer.Status.{Status}
use Rattle.io_edge.specs.declared.answer.Status.TheVariants as status
use Rattle.io_edge.specs.Texts.{Answer, with_text, unread, too_long}
use Rattle.io_edge.specs.Change.{Change}
use Rattle.io_edge.specs.Course.{File}
use Rattle.io_edge.specs.Outcome.{Call}

pub record Wrote (sink : Change SinkView) (P : List ℕ → Type 0) : Type 0 where
  pub text : List ℕ
  pub whole : sink.after.taken ≡ with_more sink.before.taken text
  pub is : P text

abbrev pub IfTold : FilesView → List ℕ → (List ℕ → Type 0) → Type 0
IfTold files name P = IfSome (files.told name) P

abbrev pub IsExcused : Status → Type 0
IsExcused s = (s ≡ status.Memory) ⊎ ((s ≡ status.ReadFault) ⊎ (s ≡ status.WriteFault))

abbrev pub Ends : Call → Answer → Type 0
Ends call a =
    ((call.status ≡ a.status) × (call.sink.after.taken ≡ with_more call.sink.before.taken a.text))
    ⊎ IsExcused call.status

abbrev pub EndsOrWide : Call → Answer → Type 0
EndsOrWide call a = Ends call a ⊎ (call.status ≡ status.Wide)

abbrev pub EndsAtFault : Status → Type 0
EndsAtFault s = (s ≡ status.Fault) ⊎ ((s ≡ status.Wide) ⊎ IsExcused s)

abbrev pub IsFaultOrWide : Status → Type 0
IsFaultOrWide s = (s ≡ status.Fault) ⊎ (s ≡ status.Wide)

abbrev pub TellsWhy : Call → (Answer → Type 0) → Type 0
TellsWhy call R =
    IsFaultOrWide call.status → Wrote call.sink (λ said. R (with_text call.status said))

-- ---- reads that gave no bytes
abbrev pub told_ending : List ℕ → ReadEnd → Option Answer
told_ending name read.Whole = None
told_ending name read.TooLong = unread name TooLong
told_ending name read.Failed = unread name Failed

abbrev pub told_end : Entry → Option Answer
told_end entry = told_ending entry.name entry.ending

pub record IsLonger (files : FilesView) (file : File) : Type 0 where
  pub content : List ℕ
  pub is_told : files.told file.name ≡ Some content
  pub longer : file.limit < length content

abbrev pub has_failed : ReadEnd → Bool
has_failed read.Whole = false
has_failed read.TooLong = false
has_failed read.Failed = true

abbrev pub is_bad : ReadEnd → Bool
is_bad read.Whole = false
is_bad read.TooLong = true
is_bad read.Failed = true

abbrev pub fails : List Entry → Bool
fails es = list_any (λ e. has_failed e.ending) es

abbrev pub are_bad : List Entry → Bool
are_bad es = list_any (λ e. is_bad e.ending) es

abbrev pub added_reads : Change FilesView → List Entry
added_reads files = drop (length files.before.reads) files.after.reads

pub record EndsBadly (files : Change FilesView) (said : List ℕ) : Type 0 where
  pub before : List Entry
  pub last : Entry
  pub added : files.after.reads ≡ files.before.reads ++ (before ++ last ∷ [])
  pub says : told_end last ≡ Some (with_text status.ReadFault said)

abbrev pub adds_bad : Change FilesView → Bool
adds_bad files = are_bad (added_reads files)

abbrev pub adds_failed : Change FilesView → Bool
adds_failed files = fails (added_reads files)

abbrev pub EndsTooLong : Call → List ℕ → Type 0
EndsTooLong call name =
    ((call.status ≡ status.ReadFault)
    × (call.sink.after.taken ≡ with_more call.sink.before.taken (too_long name).text))
    ⊎ ((adds_failed call.files ≡ true)
    ⊎ ((call.status ≡ status.Memory) ⊎ (call.status ≡ status.WriteFault)))

pub record IsOutside (call : Call) : Type 0 where
  pub read_fault : call.status ≡ status.ReadFault → Wrote call.sink (EndsBadly call.files)
  pub bad_read : adds_bad call.files ≡ true
      → (call.status ≡ status.ReadFault)
      ⊎ ((call.status ≡ status.Memory) ⊎ (call.status ≡ status.WriteFault))
  pub write_fault : call.status ≡ status.WriteFault
      → call.sink.before.faults < call.sink.after.faults
  pub written : call.sink.before.faults < call.sink.after.faults
      → call.status ≡ status.WriteFault
