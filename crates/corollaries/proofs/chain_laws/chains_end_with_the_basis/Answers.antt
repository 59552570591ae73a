use Rattle.corollaries.proofs.Analysed.{analysed_basis, analysed_generates, analysed_one}
use Rattle.corollaries.proofs.chain_laws.chains_end_with_the_basis.Goals as goal

pub returns : goal.returns
returns c s = record { basis = analysed_basis; generates = analysed_generates; one = analysed_one }
