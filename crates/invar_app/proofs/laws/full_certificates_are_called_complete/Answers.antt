use Rattle.invar_app.proofs.FullChecked.{called_complete}
use Rattle.invar_app.proofs.laws.full_certificates_are_called_complete.Goals as goal

pub returns : goal.returns
returns c = λ text said budget m shows done short request call checks loop_told certificate_told.
    called_complete text said budget m shows done short request call checks loop_told
    certificate_told
