use Rattle.std.proofs.Common.{◌≡◌, [], map, get_or, length}
use Rattle.gf65521.specs.GfMeaning.{residue_of}
use Rattle.vectors.specs.Causes.{numbers_to}
use Rattle.eigen_split.specs.Residues.{GF, gf_rows, next_entry}
use Rattle.eigen_split.proofs.annihilator.next_rows.Given as goal

abbrev pub invariant-loop-i : goal.invariant-loop-i
invariant-loop-i l = gf_rows l.out.items
    ≡ map (λ i. map (λ j. next_entry GF (gf_rows l.columns.items) (residue_of l.coefficient)
    (get_or (gf_rows l.rows.items) i []) i j) (numbers_to (length l.columns.items)))
    (numbers_to l.i)
