use Rattle.replay_commands.proofs.CounterShown.{run_refutes, same_question, holds_of_words}
use Rattle.invar_app.proofs.laws.counter_runs_are_of_equations_that_do_not_hold.Goals as goal

pub returns : goal.returns
returns c = record {
  never_yes = λ text equation said other n run shown.
      run_refutes text equation said n shown.loop shown.difference run
      (record { is_loop = shown.is_loop; is_equation = shown.is_equation }) shown.holds;
  never_none = λ text equation said l e no is none.
      no.fails (same_question text equation l no.loop e no.difference is
      (record { is_loop = no.is_loop; is_equation = no.is_equation }) (holds_of_words l e none));
}
