use Rattle.rounds.proofs.Theorem.{same_basis_same}
use Rattle.rounds.proofs.laws.one_basis_for_the_same_invariants.Goals as goal

pub returns : goal.returns
returns c s = same_basis_same
