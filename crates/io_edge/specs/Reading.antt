-- A file that is read as something: a text says what it is, or what its first fault is.
--   by_reading said next         a course by what a text says: a fault ends it, something goes on
--   with_file file next          the file is read, and so it goes on
--   IsFaultOf text a             a tells the first fault of the text
--   HasReadAs file x files       the file was read, and its text says x
--   IsFaulty file files refusal      the file was read, and the refusal tells its first fault, or memory was wanting
--   IsRefusedAt file files refusal   the one or the other
--   SaysOf call file said        the bytes of the file are told, and this is what they say
use Rattle.std.specs.Prelude.{◌≡◌, ◌⊎◌, ℕ, List, Some, Result, Ok, Err, IfSome}
use Rattle.io_edge.specs.Outside.{FilesView}
use Rattle.io_edge.specs.declared.refusal.Refusal.{Refusal}
use Rattle.io_edge.specs.Refusals.{seen_refusal}
use Rattle.io_edge.specs.Texts.{Answer}
use Rattle.io_edge.specs.Course.{File, Course, reads, silent}
use Rattle.io_edge.specs.Change.{Change}
use Rattle.io_edge.specs.Outcome.{Call, HasRead, IsUnread}

module _ {X F : Type 0} (reading : List ℕ → Result X F) where
  pub record HasReadAs (file : File) (x : X) (files : Change FilesView) : Type 0 where
    pub text : List ℕ
    pub read : HasRead file (Ok text) files
    pub says : reading text ≡ Ok x

  pub record SaysOf (call : Call) (file : File) (said : Result X F) : Type 0 where
    pub text : List ℕ
    pub is_told : call.files.before.told file.name ≡ Some text
    pub reads : reading text ≡ said

module _ {X F : Type 0} (reading : List ℕ → Result X F) (refusal_of : F → Answer) where
  abbrev pub by_reading : Result X F → (X → Course) → Course
  by_reading (Ok x) next = next x
  by_reading (Err fault) next = silent (λ a. a ≡ refusal_of fault)

  abbrev pub with_file : File → (X → Course) → Course
  with_file file next = reads file (λ text. by_reading (reading text) next)

  pub record IsFaultOf (text : List ℕ) (a : Answer) : Type 0 where
    pub fault : F
    pub is : reading text ≡ Err fault
    pub says : a ≡ refusal_of fault

  abbrev pub IsFaulty : File → Change FilesView → Refusal → Type 0
  IsFaulty file files refusal =
      (text : List ℕ) × HasRead file (Ok text) files
      × IfSome (seen_refusal refusal) (IsFaultOf text)

  abbrev pub IsRefusedAt : File → Change FilesView → Refusal → Type 0
  IsRefusedAt file files refusal = IsUnread file files refusal ⊎ IsFaulty file files refusal
