use Rattle.std.proofs.Common.{◌≡◌, length}
use Rattle.closed_forms.specs.Splits.{AreSplitsTo}
use Rattle.closed_forms.specs.SquareMap.{polys_by}
use Rattle.closed_forms.proofs.square_map.SquareMap.splits_of.Given as goal

abbrev pub invariant-loop-first : goal.invariant-loop-first
invariant-loop-first l = AreSplitsTo (polys_by l.self) l.splits.items
    × (length l.splits.items ≡ l.first)
