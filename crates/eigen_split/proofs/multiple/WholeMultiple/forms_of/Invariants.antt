use Rattle.linear.specs.Rows.{rows_of}
use Rattle.eigen_split.specs.Ints.{ints_of}
use Rattle.eigen_split.specs.WholeMultiple.{rows_in, size_of}
use Rattle.eigen_split.proofs.Going.{Going}
use Rattle.eigen_split.proofs.multiple.WholeMultiple.forms_of.Given as goal

abbrev pub invariant-loop-step : goal.invariant-loop-step
invariant-loop-step l = Going (size_of l.self) (rows_in l.self) l.self.denominator
    l.number.value l.step (ints_of l.power.items) (rows_of l.known.forms.items) l.known.echelon
    l.grown
