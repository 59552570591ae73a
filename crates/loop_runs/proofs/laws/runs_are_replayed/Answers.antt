use Rattle.loop_runs.proofs.laws.runs_are_replayed.Goals as goal
use Rattle.loop_runs.proofs.Runs.{run_replayed}

pub returns : goal.returns
returns c s = λ program state word end is e. run_replayed program state word end is e
