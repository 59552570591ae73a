use Rattle.std.proofs.Common.{◌≡◌, ◌++◌}
use Rattle.linear.specs.Rows.{fractions_of}
use Rattle.frac128.specs.FracMeaning.{fraction_of}
use Rattle.eigen_split.specs.Search.{copies}
use Rattle.eigen_split.proofs.search.repeat.Given as goal

abbrev pub invariant-loop-i : goal.invariant-loop-i
invariant-loop-i l = fractions_of l.values.items ≡ fractions_of l.initial.values.items
    ++ copies l.i (fraction_of l.value)
