use Rattle.gf65521.specs.GfMeaning.{residue_of}
use Rattle.eigen_split.specs.Residues.{GF}
use Rattle.eigen_split.proofs.Squares.{mapped_more}
use Rattle.eigen_split.proofs.annihilator.zero_row.Goals as goal

pub loop-j-preserved : goal.loop-j-preserved
loop-j-preserved c =
    mapped_more residue_of (λ j. GF.zero) c.loop-j.j _ _ c.loop-j.invariant
    c.in_ok-push.ensures.items c.zero.ensures
