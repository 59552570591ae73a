use Rattle.eigen_split.specs.Residues.{gfs, gf_rows}
use Rattle.eigen_split.specs.WholeMultiple.{rows_in, size_of}
use Rattle.eigen_split.proofs.Scheme.{IsScheme}
use Rattle.eigen_split.proofs.multiple.WholeMultiple.annihilator.Given as goal

abbrev pub invariant-loop-degree : goal.invariant-loop-degree
invariant-loop-degree l = IsScheme (size_of l.self) l.self.denominator (rows_in l.self)
    (gf_rows l.rows.items) (gfs l.coefficients.items)
