use Rattle.corollaries.proofs.Complete.{level_covered}
use Rattle.corollaries.proofs.certificate_laws.rounds_cover_levels.Goals as goal

pub returns : goal.returns
returns c s = level_covered
