use Rattle.expo.proofs.Independence.{one_expo}
use Rattle.expo.proofs.laws.values_decide_exponentials.Goals as goal

pub returns : goal.returns
returns c = λ b v h. one_expo c.args.left.now c.args.right.now b v h
