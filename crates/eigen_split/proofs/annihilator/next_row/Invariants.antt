use Rattle.std.proofs.Common.{◌≡◌, map}
use Rattle.gf65521.specs.GfMeaning.{residue_of}
use Rattle.vectors.specs.Causes.{numbers_to}
use Rattle.eigen_split.specs.Residues.{GF, gfs, gf_rows, next_entry}
use Rattle.eigen_split.proofs.annihilator.next_row.Given as goal

abbrev pub invariant-loop-j : goal.invariant-loop-j
invariant-loop-j l = gfs l.out.items ≡ map (λ j. next_entry GF (gf_rows l.columns.items)
    (residue_of l.coefficient) (gfs l.row) l.i j) (numbers_to l.j)
