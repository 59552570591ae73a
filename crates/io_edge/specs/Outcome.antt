-- The outcome of a call: the reads that it added, the answer, and how it was delivered.
--   Call                        what a call did: to the files, to the sink and to the meter, and its status
--   call_of files sink meter status     the call that did these
--   HasRead file got files      the file was read, and the read gave this
--   IsUnread file files refusal     the file gave no bytes, and the refusal tells why, or memory was wanting
--   IsReadOr file files result  the file was read, and the result is its bytes, or the refusal that there are none
--   Says course files meter answer      the course was gone, and the answer is by what its reads gave; or none, for want of memory
--   IsIdle files meter          nothing was read, and the meter is as it was
--   Obeys course request files meter result     where the arguments ask for something, its course was gone, and the result is the answer or want of memory; where they ask for nothing, nothing was done, and the result says so
--   reply_of r                  the result of a command that was asked for, by its answer
--   answer_to usage result      which answer is delivered to a result, with this one to arguments that are no command
--   IsCarriedOut course call    the course was gone, and the answer by what its reads gave was delivered, or that of want of memory
--   IsUnasked usage call        nothing was done, and this answer was delivered
--   Finishes course request usage call  what was asked for was carried out; where nothing was, the call says so
use Rattle.std.specs.Prelude.{◌≡◌, ◌≤◌, ◌+◌, List, ◌++◌, length, Option, Some, None, Result, Ok, Err, IfSome, unwrap_or, ℕ}
use Rattle.std.specs.Global.{Vec}
use Rattle.std.specs.declared.alloc.AllocError.{AllocError}
use Rattle.io_edge.specs.declared.files.FilesError.{FilesError}
use Rattle.io_edge.specs.Reads.{entries_of}
use Rattle.io_edge.specs.Outside.{FilesView, SinkView}
use Rattle.machines.specs.Journal.{Journal}
use Rattle.io_edge.specs.declared.answer.Status.{Status}
use Rattle.io_edge.specs.declared.answer.Answer as made
use Rattle.io_edge.specs.Texts.{Answer, memory_answer, unread}
use Rattle.io_edge.specs.Views.{answer_view}
use Rattle.io_edge.specs.declared.refusal.Refusal.{Refusal}
use Rattle.io_edge.specs.Refusals.{Refuses}
use Rattle.io_edge.specs.Change.{Change}
use Rattle.io_edge.specs.Delivery.{Delivers}
use Rattle.io_edge.specs.Course.{File, Got, Course, entries, IsTold, AreTold, Keeps, IsAnswer}

pub record Call : Type 0 where
  pub files : Change FilesView
  pub sink : Change SinkView
  pub meter : Change Journal
  pub status : Status

abbrev pub call_of : Change FilesView → Change SinkView → Change Journal → Status → Call
call_of files sink meter status =
    record { files = files; sink = sink; meter = meter; status = status }

pub record HasRead (file : File) (got : Got) (files : Change FilesView) : Type 0 where
  pub added : files.after.reads ≡ files.before.reads ++ entries_of got file.name file.limit
  pub tried : files.after.tries ≤ files.before.tries + 1
  pub is_told : IsTold (files.before.told file.name) file.limit got

abbrev pub IsUnread : File → Change FilesView → Refusal → Type 0
IsUnread file files refusal =
    (e : FilesError) × HasRead file (Err e) files × Refuses refusal (unread file.name e)

abbrev pub IsReadOr : File → Change FilesView → Result (Vec ℕ) Refusal → Type 0
IsReadOr file files (Ok bytes) = HasRead file (Ok bytes.items) files
IsReadOr file files (Err refusal) = IsUnread file files refusal

pub record Says (course : Course) (files : Change FilesView) (meter : Change Journal)
    (answer : Option Answer) : Type 0 where
  pub gots : List Got
  pub tried : files.after.tries ≤ files.before.tries + length gots
  pub added : files.after.reads ≡ files.before.reads ++ entries course gots
  pub are_told : AreTold files.before.told course gots
  pub keeps : Keeps course gots meter.before meter.after
  pub answers : IfSome answer (IsAnswer course gots meter.after)

pub record IsIdle (files : Change FilesView) (meter : Change Journal) : Type 0 where
  pub unread : files.after.reads ≡ files.before.reads
  pub untried : files.after.tries ≡ files.before.tries
  pub kept : meter.after ≡ meter.before

module _ {A : Type 0} (course : A → Course) where
  abbrev pub Obeys : Option A → Change FilesView → Change Journal
      → Result (Option made.Answer) AllocError → Type 0
  Obeys None files meter result = IsIdle files meter × (result ≡ Ok None)
  Obeys (Some request) files meter (Ok None) = ⊥
  Obeys (Some request) files meter (Ok (Some a)) =
      Says (course request) files meter (Some (answer_view a))
  Obeys (Some request) files meter (Err e) = Says (course request) files meter None

abbrev pub reply_of : Result made.Answer AllocError → Result (Option made.Answer) AllocError
reply_of (Ok a) = Ok (Some a)
reply_of (Err e) = Err e

abbrev pub answer_to : Answer → Result (Option made.Answer) AllocError → Answer
answer_to usage (Ok None) = usage
answer_to usage (Ok (Some a)) = answer_view a
answer_to usage (Err e) = memory_answer

pub record IsCarriedOut (course : Course) (call : Call) : Type 0 where
  pub answer : Option Answer
  pub says : Says course call.files call.meter answer
  pub delivers : Delivers call.sink (unwrap_or answer memory_answer) call.status

pub record IsUnasked (usage : Answer) (call : Call) : Type 0 where
  pub idle : IsIdle call.files call.meter
  pub delivers : Delivers call.sink usage call.status

module _ {A : Type 0} (course : A → Course) where
  abbrev pub Finishes : Option A → Answer → Call → Type 0
  Finishes None usage call = IsUnasked usage call
  Finishes (Some request) usage call = IsCarriedOut (course request) call
