use Rattle.std.proofs.Common.{◌≡◌, ◌+◌, take}
use Rattle.linear.specs.Rows.{rows_of}
use Rattle.vectors.specs.Adding.{IsEchelonOf}
use Rattle.solvable_maps.specs.Inverse.{beside}
use Rattle.closed_forms.proofs.matrices.FormMatrix.echelon_beside.Given as goal

abbrev pub invariant-loop-place : goal.invariant-loop-place
invariant-loop-place l = (l.echelon.width ≡ l.size + l.size)
    × IsEchelonOf (l.size + l.size) (beside l.size 0 (rows_of (take l.place l.self.forms.now)))
    l.echelon.rows
