use Rattle.std.proofs.Common.{length}
use Rattle.closed_forms.proofs.map_in_work.MapInWork.+fill.Given as goal

abbrev pub decreases-fill : goal.decreases-fill
decreases-fill l = length l.classes.now
