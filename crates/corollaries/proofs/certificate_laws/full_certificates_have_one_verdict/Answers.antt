use Rattle.corollaries.proofs.Verdicts.{verdict_exists, verdict_unique}
use Rattle.corollaries.proofs.certificate_laws.full_certificates_have_one_verdict.Goals as goal

pub returns : goal.returns
returns c s = record { some = verdict_exists; one = verdict_unique }
