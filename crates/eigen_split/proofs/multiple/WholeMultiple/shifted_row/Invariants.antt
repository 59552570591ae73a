use Rattle.std.proofs.Common.{◌≡◌, map}
use Rattle.vectors.specs.Causes.{numbers_to}
use Rattle.eigen_split.specs.Ints.{ints, shifted_entry}
use Rattle.eigen_split.specs.WholeMultiple.{rows_in}
use Rattle.eigen_split.proofs.multiple.WholeMultiple.shifted_row.Given as goal

abbrev pub invariant-loop-j : goal.invariant-loop-j
invariant-loop-j l = ints l.out.items ≡ map (λ j. shifted_entry l.self.denominator l.candidate.value
    (rows_in l.self) l.i j) (numbers_to l.j)
