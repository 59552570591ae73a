use Rattle.std.proofs.Common.{◌≡◌, length, map, take}
use Rattle.linear.specs.Rows.{rows_of}
use Rattle.poly.specs.Seen.{terms_each}
use Rattle.closed_forms.specs.ClassInWork.{base_in, vars_in}
use Rattle.closed_forms.specs.Known.{variable_in}
use Rattle.closed_forms.specs.Values.{bodies_of, AreOver}
use Rattle.closed_forms.proofs.class_in_work.ClassInWork.variables.Given as goal

abbrev pub invariant-loop-row : goal.invariant-loop-row
invariant-loop-row l =
    (length l.out.items ≡ l.row-index)
    × AreOver (base_in l.self) (vars_in l.self) l.out.items
    × (bodies_of l.out.items ≡ map (λ row. variable_in (base_in l.self) row
    (terms_each l.forms)) (rows_of (take l.row-index l.self.setting.back.items)))
