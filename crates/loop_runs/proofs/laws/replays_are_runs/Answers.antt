use Rattle.loop_runs.proofs.laws.replays_are_runs.Goals as goal
use Rattle.loop_runs.proofs.Runs.{replay_start, replay_ends, replay_states}

pub returns-clause-start : goal.returns-clause-start
returns-clause-start c s = λ program state word found h. replay_start program state word found h

pub returns-clause-run : goal.returns-clause-run
returns-clause-run c s = λ program state word found h. replay_ends program state word found h

pub returns-clause-states : goal.returns-clause-states
returns-clause-states c s = λ program state word found h. replay_states program state word found h
