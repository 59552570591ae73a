-- What `help`, `--help` and `--version` promise of the page that they ask for.
--   page_answer page    the answer: yes, with the page's text
--   course page         the course: no file is read, and the meter is left alone
--   Helps page call     the clauses
use Rattle.std.specs.Prelude.{◌≡◌, ◌⊎◌, ◌≤◌}
use Rattle.io_edge.specs.Bytes.{with_more}
use Rattle.io_edge.specs.declared.answer.Status.TheVariants as status
use Rattle.io_edge.specs.Texts.{Answer, with_text}
use Rattle.io_edge.specs.Course.{Course, silent}
use Rattle.io_edge.specs.Outcome.{Call}
use Rattle.invar_app.specs.declared.pages.Page.{Page}
use Rattle.invar_app.specs.HelpPages.{text_of}

abbrev pub page_answer : Page → Answer
page_answer page = with_text status.Yes (text_of page)

abbrev pub course : Page → Course
course page = silent (λ a. a ≡ page_answer page)

pub record Helps (page : Page) (call : Call) : Type 0 where
  -- the page's text, byte for byte, with yes, unless memory is wanting or the sink fails
  pub shows : ((call.status ≡ status.Yes)
      × (call.sink.after.taken ≡ with_more call.sink.before.taken (text_of page)))
      ⊎ ((call.status ≡ status.Memory) ⊎ (call.status ≡ status.WriteFault))
  -- no file is read or tried, and the meter is left alone
  pub unread : call.files.after.reads ≡ call.files.before.reads
  pub untried : call.files.after.tries ≤ call.files.before.tries
  pub untouched : call.meter.after ≡ call.meter.before
