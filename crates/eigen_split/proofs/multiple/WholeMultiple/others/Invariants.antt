use Rattle.eigen_split.specs.Search.{IterationsTo}
use Rattle.eigen_split.specs.Parts.{found_of}
use Rattle.eigen_split.specs.WholeMultiple.{rows_in, size_of}
use Rattle.eigen_split.proofs.multiple.WholeMultiple.others.Given as goal

abbrev pub invariant-loop-step : goal.invariant-loop-step
invariant-loop-step l = IterationsTo (size_of l.self) (rows_in l.self) l.bound l.step
    (found_of l.found)
