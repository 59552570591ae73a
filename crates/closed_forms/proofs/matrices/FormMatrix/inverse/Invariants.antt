use Rattle.std.proofs.Common.{◌≡◌, length, take, drop, map}
use Rattle.linear.specs.Rows.{rows_of}
use Rattle.closed_forms.proofs.matrices.FormMatrix.inverse.Given as goal

abbrev pub invariant-loop-row : goal.invariant-loop-row
invariant-loop-row l = rows_of l.back.items
    ≡ map (drop (length l.self.forms.now)) (rows_of (take l.row-index l.row-items))
