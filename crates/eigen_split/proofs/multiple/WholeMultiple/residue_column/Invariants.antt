use Rattle.std.proofs.Common.{◌≡◌, map}
use Rattle.vectors.specs.Causes.{numbers_to}
use Rattle.eigen_split.specs.Residues.{gfs, residue_at}
use Rattle.eigen_split.specs.WholeMultiple.{rows_in}
use Rattle.eigen_split.proofs.multiple.WholeMultiple.residue_column.Given as goal

abbrev pub invariant-loop-i : goal.invariant-loop-i
invariant-loop-i l = gfs l.out.items ≡ map (λ i. residue_at l.self.denominator (rows_in l.self) i
    l.j) (numbers_to l.i)
