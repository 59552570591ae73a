use Rattle.std.proofs.Common.{◌≡◌, map}
use Rattle.vectors.specs.Causes.{numbers_to}
use Rattle.eigen_split.specs.Residues.{GF, gfs}
use Rattle.eigen_split.proofs.annihilator.zero_row.Given as goal

abbrev pub invariant-loop-j : goal.invariant-loop-j
invariant-loop-j l = gfs l.out.items ≡ map (λ j. GF.zero) (numbers_to l.j)
