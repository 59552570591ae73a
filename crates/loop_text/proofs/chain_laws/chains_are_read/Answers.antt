use Rattle.loop_text.proofs.ChainLaws.{chain_read}
use Rattle.loop_text.proofs.chain_laws.chains_are_read.Goals as goal

pub returns : goal.returns
returns c = chain_read
