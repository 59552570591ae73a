use Rattle.std.proofs.Common.{length}
use Rattle.eigen_split.specs.Ints.{ints_of, whole_rows}
use Rattle.eigen_split.specs.Search.{IsEchelonAt}
use Rattle.eigen_split.proofs.levels.echelon_of.Given as goal

abbrev pub invariant-loop-j : goal.invariant-loop-j
invariant-loop-j l = IsEchelonAt (length l.rows.items) (whole_rows (ints_of l.rows.items)) l.j
    l.echelon
