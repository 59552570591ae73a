use Rattle.loops.proofs.ChainRuns.{loop_of_chain}
use Rattle.corollaries.proofs.chain_laws.chains_of_one_loop_are_loops.Goals as goal

pub returns : goal.returns
returns c s = loop_of_chain
