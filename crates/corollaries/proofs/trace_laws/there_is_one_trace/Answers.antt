use Rattle.corollaries.proofs.One.{traces_are_one, enough_budget}
use Rattle.corollaries.proofs.trace_laws.there_is_one_trace.Goals as goal

pub returns : goal.returns
returns c s = record { same = traces_are_one; enough = λ program k n. enough_budget program k n }
