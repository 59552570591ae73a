use Rattle.std.proofs.Common.{◌≡◌, ◌+◌, length}
use Rattle.frac128.specs.FracMeaning.{fraction_of}
use Rattle.expo.specs.Numbers.{number_at}
use Rattle.expo.proofs.Tables.{OtherFrom}
use Rattle.expo.proofs.table.other_numbers.Given as goal

abbrev pub invariant-loop-row : goal.invariant-loop-row
invariant-loop-row l = record {
  count : length l.numbers.items ≡ l.degree + 1;
  table : OtherFrom (fraction_of l.inhomogeneity) (fraction_of l.own) l.degree l.row
      (number_at l.numbers.items) (fraction_of l.start);
}

abbrev pub decreases-loop-row : goal.decreases-loop-row
decreases-loop-row l = l.row
