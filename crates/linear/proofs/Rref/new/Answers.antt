use Rattle.linear.proofs.Kept.{kept_none}
use Rattle.linear.proofs.Rref.new.Goals as goal

pub invariant_of-result : goal.invariant_of-result
invariant_of-result c = kept_none c.args.width c.new.ensures.items
