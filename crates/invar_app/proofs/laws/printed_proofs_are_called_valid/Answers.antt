use Rattle.invar_app.proofs.PrintedChecked.{proof_called_valid}
use Rattle.invar_app.proofs.laws.printed_proofs_are_called_valid.Goals as goal

pub returns : goal.returns
returns c = record {
  prove = λ text equation said budget m shows done few short request call checks loop_told told.
      proof_called_valid text said shows.loop shows.question.is_loop _ shows.list shows.proof few
      short request call checks loop_told told done.loop done.question.is_loop done.free;
  up_to = λ text said d budget m shows done few short request call checks loop_told told.
      proof_called_valid text said shows.loop shows.is_loop shows.list shows.closure shows.proof
      few short request call checks loop_told told done.loop done.is_loop done.free;
}
