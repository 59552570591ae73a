use Rattle.solvable.proofs.Classing.{test_in}
use Rattle.solvable.proofs.groups.is_in.Goals as goal

pub returns : goal.returns
returns c = test_in c.contains.result c.args.list.now c.args.variable c.contains.ensures.value
