use Rattle.std.proofs.Common.{take}
use Rattle.linear.specs.Rows.{rows_of}
use Rattle.eigen_split.proofs.Taking.{Taken}
use Rattle.eigen_split.proofs.levels.KnownForms.take_new.Given as goal

abbrev pub invariant-loop-j : goal.invariant-loop-j
invariant-loop-j l = Taken l.initial.self.size (rows_of l.initial.self.forms.items)
    (rows_of (take l.j l.vectors.items)) (rows_of l.self.forms.items) l.self.echelon
