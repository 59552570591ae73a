use Rattle.corollaries.proofs.Forms.{passing_is_closed}
use Rattle.corollaries.proofs.certificate_laws.right_forms_are_closed.Goals as goal

pub returns : goal.returns
returns c = passing_is_closed
