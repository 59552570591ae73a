use Rattle.replay_commands.proofs.CounterShown.{run_refutes, holds_of_words}
use Rattle.replay_commands.proofs.counter_laws.counter_runs_refute_equations.Goals as goal

pub returns : goal.returns
returns c = record {
  refutes = λ text equation said n l e shows is holds.
      run_refutes text equation said n l e shows is holds;
  holds = λ l e h. holds_of_words l e h;
}
