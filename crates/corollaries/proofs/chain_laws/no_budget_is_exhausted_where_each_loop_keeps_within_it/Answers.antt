use Rattle.corollaries.proofs.Exhausted.{never_exhausted, never_exhausted_between}
use Rattle.corollaries.proofs.chain_laws.no_budget_is_exhausted_where_each_loop_keeps_within_it.Goals as goal

pub returns : goal.returns
returns c s = record { loops = never_exhausted; code = never_exhausted_between }
