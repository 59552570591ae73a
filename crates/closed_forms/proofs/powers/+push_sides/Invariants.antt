use Rattle.std.proofs.Common.{length}
use Rattle.closed_forms.proofs.powers.+push_sides.Given as goal

abbrev pub decreases-push_sides : goal.decreases-push_sides
decreases-push_sides l = length l.exponents.now
