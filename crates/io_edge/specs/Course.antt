-- What a command does, as data: which files it reads, in their order, what it leaves in the meter, and what it answers by what the reads gave.
--   File                    a file to be read: its name, and how many bytes it may have
--   Got                     what a read gave: bytes, or why there are none
--   Course                  reads file next: the file is read, and the bytes tell how it goes on. ends Leaves Answers: nothing more is read; the meter is as it was, or left with a journal of which Leaves holds, and the answer is one of which Answers holds beside that journal
--   silent Answers          it ends so, and leaves the meter alone
--   entries course gots     what its reads, which gave these, add to the list of reads
--   AreTold told course gots        they were its reads, in order, up to its end or to the first that gave no bytes; what was read is what is told of the files, and within their limits
--   Keeps course gots m m'  the meter is left with m' where it had m
--   IsAnswer course gots m a        a answers by what they gave, where the meter is left with m
--   Outcome told course m a so, over the bytes that are told of the files
--   LeftBy told course m    over those bytes it comes to an end that leaves m
--   ComesTo told course file        over those bytes the file is read, where the reads before don't fail
--   IsSilent course         none of its ends changes the meter
--   EachAnswer P course     P of each answer by what the files hold
use Rattle.std.specs.Prelude.{◌≡◌, ◌⊎◌, ◌<◌, ◌≤◌, ⊤, ℕ, List, [], ◌∷◌, ◌++◌, length, Option, Some, Result, Ok, Err, IfSome}
use Rattle.io_edge.specs.declared.files.FilesError.{FilesError}
use Rattle.io_edge.specs.declared.files.FilesError.TheVariants.{TooLong, Failed, Memory}
use Rattle.io_edge.specs.Reads.{Entry, entries_of}
use Rattle.machines.specs.Journal.{Journal}
use Rattle.io_edge.specs.Texts.{Answer, unread}

pub record File : Type 0 where
  pub name : List ℕ
  pub limit : ℕ

abbrev pub Got : Type 0
Got = Result (List ℕ) FilesError

pub data Course : Type 1 where
  reads : File → (List ℕ → Course) → Course
  ends : (Journal → Type 0) → (Journal → Answer → Type 0) → Course

abbrev pub silent : (Answer → Type 0) → Course
silent Answers = ends (λ m. ⊥) (λ m a. Answers a)

abbrev pub entries : Course → List Got → List Entry
entries (reads file next) [] = []
entries (reads file next) (Err e ∷ gots) = entries_of {T = List ℕ} (Err e) file.name file.limit
entries (reads file next) (Ok bytes ∷ gots) =
    entries_of (Ok bytes) file.name file.limit ++ entries (next bytes) gots
entries (ends Leaves Answers) gots = []

abbrev pub IsTold : Option (List ℕ) → ℕ → Got → Type 0
IsTold told limit (Ok bytes) = IfSome told (λ content. bytes ≡ content) × (length bytes ≤ limit)
IsTold told limit (Err TooLong) = IfSome told (λ content. limit < length content)
IsTold told limit (Err Failed) = ⊤
IsTold told limit (Err Memory) = ⊤

module _ (told : List ℕ → Option (List ℕ)) where
  abbrev pub AreTold : Course → List Got → Type 0
  AreTold (reads file next) [] = ⊤
  AreTold (reads file next) (Err e ∷ gots) =
      IsTold (told file.name) file.limit (Err e) × (gots ≡ [])
  AreTold (reads file next) (Ok bytes ∷ gots) =
      IsTold (told file.name) file.limit (Ok bytes) × AreTold (next bytes) gots
  AreTold (ends Leaves Answers) gots = gots ≡ []

  abbrev pub Outcome : Course → Journal → Answer → Type 0
  Outcome (reads file next) m a = IfSome (told file.name) (λ text. Outcome (next text) m a)
  Outcome (ends Leaves Answers) m a = Answers m a

  abbrev pub LeftBy : Course → Journal → Type 0
  LeftBy (reads file next) m = IfSome (told file.name) (λ text. LeftBy (next text) m)
  LeftBy (ends Leaves Answers) m = Leaves m

  abbrev pub ComesTo : Course → File → Type 0
  ComesTo (reads first next) file =
      (first ≡ file)
      ⊎ ((text : List ℕ) × (told first.name ≡ Some text)
      × (length text ≤ first.limit) × ComesTo (next text) file)
  ComesTo (ends Leaves Answers) file = ⊥

abbrev pub Keeps : Course → List Got → Journal → Journal → Type 0
Keeps (reads file next) [] m m' = m' ≡ m
Keeps (reads file next) (Err e ∷ gots) m m' = m' ≡ m
Keeps (reads file next) (Ok bytes ∷ gots) m m' = Keeps (next bytes) gots m m'
Keeps (ends Leaves Answers) gots m m' = (m' ≡ m) ⊎ Leaves m'

abbrev pub IsAnswer : Course → List Got → Journal → Answer → Type 0
IsAnswer (reads file next) [] m a = ⊥
IsAnswer (reads file next) (Err e ∷ gots) m a = unread file.name e ≡ Some a
IsAnswer (reads file next) (Ok bytes ∷ gots) m a = IsAnswer (next bytes) gots m a
IsAnswer (ends Leaves Answers) gots m a = Answers m a

abbrev pub IsSilent : Course → Type 0
IsSilent (reads file next) = (bytes : List ℕ) → IsSilent (next bytes)
IsSilent (ends Leaves Answers) = (m : Journal) → Leaves m → ⊥

abbrev pub EachAnswer : (Answer → Type 0) → Course → Type 0
EachAnswer P (reads file next) = (bytes : List ℕ) → EachAnswer P (next bytes)
EachAnswer P (ends Leaves Answers) = (m : Journal) (a : Answer) → Answers m a → P a
