use Rattle.std.proofs.Common.{◌≡◌, map}
use Rattle.vectors.specs.Causes.{numbers_to}
use Rattle.eigen_split.specs.Residues.{GF, gf_rows}
use Rattle.eigen_split.proofs.annihilator.zero_rows.Given as goal

abbrev pub invariant-loop-i : goal.invariant-loop-i
invariant-loop-i l = gf_rows l.out.items ≡ map (λ i. map (λ j. GF.zero) (numbers_to l.size))
    (numbers_to l.i)
