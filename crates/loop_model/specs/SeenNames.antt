-- What an answer says of a list of names.
--   error_fault e           the fault; nothing where memory failed
--   seen_fault result       the first fault, or that there is none
use Rattle.std.specs.Prelude.{Option, Some, None, Result, Ok, Err}
use Rattle.loop_model.specs.Names.{NameFault, twice, bad}
use Rattle.loop_model.specs.declared.names_error.NamesError.{NamesError}
use Rattle.loop_model.specs.declared.names_error.NamesError.TheVariants.{Twice, Bad, Memory}

abbrev pub error_fault : NamesError → Option (Option NameFault)
error_fault (Twice index) = Some (Some (twice index))
error_fault (Bad index) = Some (Some (bad index))
error_fault Memory = None

abbrev pub seen_fault : {N : Type 0} → Result N NamesError → Option (Option NameFault)
seen_fault (Ok names) = Some None
seen_fault (Err e) = error_fault e
