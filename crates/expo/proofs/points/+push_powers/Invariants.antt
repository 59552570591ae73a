use Rattle.std.proofs.Common.{length}
use Rattle.expo.proofs.points.+push_powers.Given as goal

abbrev pub decreases-push_powers : goal.decreases-push_powers
decreases-push_powers l = length l.base.now
