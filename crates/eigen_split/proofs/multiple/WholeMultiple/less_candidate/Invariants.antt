use Rattle.std.proofs.Common.{◌≡◌, map}
use Rattle.vectors.specs.Causes.{numbers_to}
use Rattle.eigen_split.specs.Ints.{ints_of, shifted_row}
use Rattle.eigen_split.specs.WholeMultiple.{rows_in}
use Rattle.eigen_split.proofs.multiple.WholeMultiple.less_candidate.Given as goal

abbrev pub invariant-loop-i : goal.invariant-loop-i
invariant-loop-i l = ints_of l.out.items
    ≡ map (λ i. shifted_row l.self.denominator l.candidate.value
    (rows_in l.self) i) (numbers_to l.i)
