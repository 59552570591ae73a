use Rattle.loop_text.proofs.ChainWell.{chain_well}
use Rattle.loop_text.proofs.chain_laws.chains_are_well_formed.Goals as goal

pub returns-clause-loops : goal.returns-clause-loops
returns-clause-loops c = λ bytes k e. (chain_well bytes k e).loops

pub returns-clause-codes : goal.returns-clause-codes
returns-clause-codes c = λ bytes k e. (chain_well bytes k e).codes

pub returns-clause-few : goal.returns-clause-few
returns-clause-few c = λ bytes k e. (chain_well bytes k e).few
