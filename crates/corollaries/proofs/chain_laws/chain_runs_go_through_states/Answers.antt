use Rattle.std.proofs.Common.{[]}
use Rattle.loops.specs.Chain.{stages_of}
use Rattle.loops.proofs.ChainRuns.{chain_keeps_state}
use Rattle.corollaries.proofs.States.{chain_states_of_run}
use Rattle.corollaries.proofs.chain_laws.chain_runs_go_through_states.Goals as goal

pub returns : goal.returns
returns c s = record {
  end = λ c r. chain_keeps_state c.first (stages_of c) r.words r.start r.end r.is_start.state
      r.is_end;
  count = λ c r. (chain_states_of_run c.first (stages_of c) r.words r.start r.end [] r.is_end).0;
  last = λ c r d. (chain_states_of_run c.first (stages_of c) r.words r.start r.end d r.is_end).1;
}
