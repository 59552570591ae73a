use Rattle.eigen_split.proofs.Scheme.{remainder}
use Rattle.eigen_split.proofs.annihilator.size_residue.Goals as goal

pub returns : goal.returns
returns c = remainder c.in-Some.rest c.args.number c.in-Some.ensures.some
