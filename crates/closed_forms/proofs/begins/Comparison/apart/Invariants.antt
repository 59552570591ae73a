use Rattle.std.proofs.Common.{◌≡◌, take, length}
use Rattle.closed_forms.specs.Comparison.{list_at}
use Rattle.closed_forms.specs.Settling.{AreAllMarked}
use Rattle.closed_forms.specs.Splits.{groups_in}
use Rattle.closed_forms.proofs.begins.Comparison.apart.Given as goal

abbrev pub invariant-loop-group : goal.invariant-loop-group
invariant-loop-group l =
    (length l.marks.items ≡ length l.self.polys.now.items)
    × AreAllMarked l.self.polys.now.items l.iterations (list_at l.self l.iterations)
    (groups_in (take l.group-index l.self.groups.now.items)) l.marks.items
