use Rattle.std.proofs.Common.{◌≡◌, take}
use Rattle.std.specs.Prelude.{All}
use Rattle.machines.specs.Elimination.{free_part}
use Rattle.poly.specs.Seen.{terms_each}
use Rattle.poly.specs.Standing.{IsInVariables}
use Rattle.task_lists.proofs.lists.free_elements.Given as goal

abbrev pub invariant-loop-p : goal.invariant-loop-p
invariant-loop-p l =
    (terms_each l.free.items ≡ free_part l.front (terms_each (take l.p-index l.list)))
    × All (IsInVariables l.variables) l.free.items
