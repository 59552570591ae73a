use Rattle.corollaries.proofs.Certified.{finished_full, finished_over, finished_reduced}
use Rattle.corollaries.proofs.trace_laws.finished_traces_give_full_certificates.Goals as goal

pub returns : goal.returns
returns c s = record { full = finished_full; over = finished_over; reduced = finished_reduced }
