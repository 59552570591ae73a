use Rattle.frac128.specs.FracMeaning.{fraction_of}
use Rattle.expo.specs.Numbers.{number_at}
use Rattle.expo.proofs.Tables.{Summed}
use Rattle.expo.proofs.table.weighed_sum.Given as goal

abbrev pub invariant-loop-place : goal.invariant-loop-place
invariant-loop-place l = Summed (number_at l.numbers) l.row l.before l.place
    (fraction_of l.coefficient) (fraction_of l.total)
