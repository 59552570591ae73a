use Rattle.rounds.proofs.Passing.{no_variable_passes}
use Rattle.rounds.proofs.laws.no_variable_passes_where_a_form_begins_at_once.Goals as goal

pub returns : goal.returns
returns c s = no_variable_passes
