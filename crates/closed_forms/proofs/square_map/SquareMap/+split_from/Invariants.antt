use Rattle.std.proofs.Common.{length}
use Rattle.closed_forms.proofs.square_map.SquareMap.+split_from.Given as goal

abbrev pub decreases-split_from : goal.decreases-split_from
decreases-split_from l = length l.groups.now
