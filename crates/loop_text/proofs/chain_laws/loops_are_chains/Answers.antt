use Rattle.loop_text.proofs.OneLoop.{loop_is_chain}
use Rattle.loop_text.proofs.chain_laws.loops_are_chains.Goals as goal

pub returns : goal.returns
returns c = loop_is_chain
