use Rattle.rounds.proofs.Invariants.{closed_list_has_certificate}
use Rattle.rounds.proofs.laws.closed_lists_have_certificates.Goals as goal

pub returns : goal.returns
returns c s = closed_list_has_certificate
