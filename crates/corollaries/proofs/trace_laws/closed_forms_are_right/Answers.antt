use Rattle.corollaries.proofs.ClosedForms.{closed_form_passes}
use Rattle.corollaries.proofs.trace_laws.closed_forms_are_right.Goals as goal

pub returns : goal.returns
returns c = closed_form_passes
