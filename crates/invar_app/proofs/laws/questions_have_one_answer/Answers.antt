use Rattle.replay_commands.proofs.CounterShown.{run_refutes}
use Rattle.closing_commands.proofs.DecideShown.{holds_shown}
use Rattle.invar_app.proofs.laws.questions_have_one_answer.Goals as goal

pub returns : goal.returns
returns c = record {
  yes = λ evidence text equation said other yes no.
      no.fails
      (holds_shown text equation said evidence yes no.loop no.difference
      (record { is_loop = no.is_loop; is_equation = no.is_equation }));
  no = λ text equation said other no yes.
      run_refutes text equation no.run no.most yes.loop yes.difference no.shows
      (record { is_loop = yes.is_loop; is_equation = yes.is_equation }) yes.holds;
}
