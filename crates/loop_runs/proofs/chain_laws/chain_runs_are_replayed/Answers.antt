use Rattle.loop_runs.proofs.chain_laws.chain_runs_are_replayed.Goals as goal
use Rattle.loop_runs.proofs.ChainRuns.{chain_run_replayed}

pub returns : goal.returns
returns g c = λ chain s words end is e. chain_run_replayed chain s words end is e
