use Rattle.invar_app.proofs.PrintedChecked.{called_valid}
use Rattle.invar_app.proofs.laws.printed_certificates_are_called_valid.Goals as goal

pub returns : goal.returns
returns c =
    λ text said budget m shows done few short request call checks loop_told certificate_told.
    called_valid text said budget m shows done few short request call checks loop_told
    certificate_told
