use Rattle.std.proofs.Common.{◌≡◌, ◌++◌, take}
use Rattle.linear.specs.Rows.{fractions_of}
use Rattle.solvable_maps.specs.Inverse.{unit_list}
use Rattle.closed_forms.proofs.matrices.beside.Given as goal

abbrev pub invariant-loop-i : goal.invariant-loop-i
invariant-loop-i l = fractions_of l.row.items ≡ fractions_of l.form
    ++ take l.i (unit_list l.size l.place)
