use Rattle.closures.proofs.Residues.{residue_congruent, residues_agree}
use Rattle.closures.proofs.laws.residues_are_congruent.Goals as goal

pub returns-clause-same : goal.returns-clause-same
returns-clause-same c = residue_congruent

pub returns-clause-agree : goal.returns-clause-agree
returns-clause-agree c = residues_agree
