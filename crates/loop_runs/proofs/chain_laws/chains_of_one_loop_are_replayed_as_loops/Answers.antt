use Rattle.loop_runs.proofs.chain_laws.chains_of_one_loop_are_replayed_as_loops.Goals as goal
use Rattle.loop_runs.proofs.ChainRuns.{one_loop}

pub returns : goal.returns
returns g c = λ program s w. one_loop program s w
