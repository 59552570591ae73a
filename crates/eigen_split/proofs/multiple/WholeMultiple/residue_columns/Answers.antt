use Rattle.std.proofs.Common.{map, Vec, Global}
use Rattle.gf65521.specs.declared.Gf.{Gf}
use Rattle.vectors.specs.Causes.{numbers_to}
use Rattle.eigen_split.specs.Residues.{gfs, residue_at}
use Rattle.eigen_split.specs.WholeMultiple.{rows_in, size_of}
use Rattle.eigen_split.proofs.Squares.{mapped_more}
use Rattle.eigen_split.proofs.multiple.WholeMultiple.residue_columns.Goals as goal

pub loop-j-preserved : goal.loop-j-preserved
loop-j-preserved c =
    mapped_more (λ (v : Vec Gf Global). gfs v.items)
    (λ j. map (λ i. residue_at c.args.self.now.denominator
    (rows_in c.args.self.now) i j) (numbers_to (size_of c.args.self.now))) c.loop-j.j
    _ _ c.loop-j.invariant c.in_ok-push.ensures.items c.in_ok-residue_column.ensures
