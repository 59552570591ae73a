use Rattle.loop_runs.proofs.chain_laws.chain_replays_are_runs.Goals as goal
use Rattle.loop_runs.proofs.ChainRuns.{chain_replay_start, chain_replay_ends, chain_replay_states}

pub returns : goal.returns
returns g c = λ chain s words found many h. (
  chain_replay_start chain s words many found h,
  chain_replay_ends chain s words many found h,
  chain_replay_states chain s words many found h,
)
