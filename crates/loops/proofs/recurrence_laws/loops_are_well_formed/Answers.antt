use Rattle.loops.proofs.RecurrencesFormed.{program_formed}
use Rattle.loops.proofs.recurrence_laws.loops_are_well_formed.Goals as goal

pub returns : goal.returns
returns c s = program_formed
