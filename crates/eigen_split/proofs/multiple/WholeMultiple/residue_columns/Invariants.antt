use Rattle.std.proofs.Common.{◌≡◌, map}
use Rattle.vectors.specs.Causes.{numbers_to}
use Rattle.eigen_split.specs.Residues.{gf_rows, residue_at}
use Rattle.eigen_split.specs.WholeMultiple.{rows_in, size_of}
use Rattle.eigen_split.proofs.multiple.WholeMultiple.residue_columns.Given as goal

abbrev pub invariant-loop-j : goal.invariant-loop-j
invariant-loop-j l = gf_rows l.out.items
    ≡ map (λ j. map (λ i. residue_at l.self.denominator (rows_in l.self) i j)
    (numbers_to (size_of l.self))) (numbers_to l.j)
