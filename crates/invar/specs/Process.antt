-- The code that the process ends with.
--   EndsWith command files sink code    the code is that of the status of a call that asks for this: from a meter without entries it did this to the files and the sink, and what the top call promises holds of it
use Rattle.std.specs.Prelude.{◌≡◌, ℕ, [], Option}
use Rattle.io_edge.specs.Outside.{FilesView, SinkView}
use Rattle.machines.specs.Journal.{Journal}
use Rattle.io_edge.specs.declared.answer.Status.{Status}
use Rattle.io_edge.specs.Change.{Change, ◌⟶◌}
use Rattle.io_edge.specs.Outcome.{call_of}
use Rattle.io_edge.specs.Statuses.{code_of}
use Rattle.invar_app.specs.Arguments.{Command}
use Rattle.invar_app.specs.Promises.{Promises}

abbrev pub no_entries : Journal
no_entries = record { limit = 0; entries = [] }

pub record EndsWith (command : Option Command) (files : Change FilesView) (sink : Change SinkView)
    (code : ℕ) : Type 0 where
  pub meter : Journal
  pub status : Status
  pub promised : Promises command (call_of files sink (no_entries ⟶ meter) status)
  pub is_code : code ≡ code_of status
