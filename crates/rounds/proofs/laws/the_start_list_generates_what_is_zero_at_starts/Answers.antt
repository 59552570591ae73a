use Rattle.rounds.proofs.Start.{passes_start, start_list_generates}
use Rattle.rounds.proofs.laws.the_start_list_generates_what_is_zero_at_starts.Goals as goal

pub returns : goal.returns
returns c s = record { generates = start_list_generates; identity = passes_start }
