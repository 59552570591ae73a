use Rattle.corollaries.proofs.Counted.{finished_counted}
use Rattle.corollaries.proofs.trace_laws.finished_traces_give_as_many.Goals as goal

pub returns : goal.returns
returns c s = finished_counted
