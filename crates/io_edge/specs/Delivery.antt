-- A text is written whole, or the sink failed behind a part of it.
--   WroteAll sink a ended     all of the answer's text was taken, the sink counts no fault more, and the status is the answer's
--   WasCut sink a ended       the sink counts a fault more, the status is that of a write fault, and a beginning of the text was taken
--   Delivers sink a ended     one of the two
use Rattle.std.specs.Prelude.{◌≡◌, ◌⊎◌, ◌<◌}
use Rattle.io_edge.specs.Outside.{SinkView}
use Rattle.io_edge.specs.Bytes.{with_more, TookPart}
use Rattle.io_edge.specs.declared.answer.Status.{Status}
use Rattle.io_edge.specs.declared.answer.Status.TheVariants.{WriteFault}
use Rattle.io_edge.specs.Texts.{Answer}
use Rattle.io_edge.specs.Change.{Change}

pub record WroteAll (sink : Change SinkView) (a : Answer) (ended : Status) : Type 0 where
  pub well : sink.after.faults ≡ sink.before.faults
  pub same : ended ≡ a.status
  pub whole : sink.after.taken ≡ with_more sink.before.taken a.text

pub record WasCut (sink : Change SinkView) (a : Answer) (ended : Status) : Type 0 where
  pub failed : sink.before.faults < sink.after.faults
  pub told : ended ≡ WriteFault
  pub part : TookPart sink.before.taken sink.after.taken a.text

abbrev pub Delivers : Change SinkView → Answer → Status → Type 0
Delivers sink a ended = WroteAll sink a ended ⊎ WasCut sink a ended
