use Rattle.corollaries.proofs.Stages.{stage_eliminates}
use Rattle.corollaries.proofs.certificate_laws.stages_eliminate.Goals as goal

pub returns : goal.returns
returns c = stage_eliminates
