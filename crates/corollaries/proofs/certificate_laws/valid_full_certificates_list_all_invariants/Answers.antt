use Rattle.corollaries.proofs.Complete.{full_generates}
use Rattle.corollaries.proofs.certificate_laws.valid_full_certificates_list_all_invariants.Goals as goal

pub returns : goal.returns
returns c s = full_generates
