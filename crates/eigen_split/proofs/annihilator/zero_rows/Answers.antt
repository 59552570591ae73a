use Rattle.std.proofs.Common.{map, Vec, Global}
use Rattle.gf65521.specs.declared.Gf.{Gf}
use Rattle.vectors.specs.Causes.{numbers_to}
use Rattle.eigen_split.specs.Residues.{GF, gfs}
use Rattle.eigen_split.proofs.Squares.{mapped_more}
use Rattle.eigen_split.proofs.annihilator.zero_rows.Goals as goal

pub loop-i-preserved : goal.loop-i-preserved
loop-i-preserved c =
    mapped_more (λ (v : Vec Gf Global). gfs v.items)
    (λ i. map (λ j. GF.zero) (numbers_to c.args.size)) c.loop-i.i _ _
    c.loop-i.invariant c.in_ok-push.ensures.items c.in_ok-zero_row.ensures
