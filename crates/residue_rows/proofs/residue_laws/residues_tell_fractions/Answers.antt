use Rattle.residue_rows.proofs.Fractions.{one_fraction}
use Rattle.residue_rows.proofs.residue_laws.residues_tell_fractions.Goals as goal

pub returns : goal.returns
returns c = one_fraction
