use Rattle.corollaries.proofs.Traces.{traced_holds, out_reduced}
use Rattle.corollaries.proofs.trace_laws.traced_stages_hold.Goals as goal

pub returns : goal.returns
returns c = record { holds = traced_holds; reduced = out_reduced }
