use Rattle.std.proofs.Common.{rules}
use Rattle.eigen_split.proofs.Joining.{fitting_none, left_past, right_past}
use Rattle.eigen_split.proofs.whole.least_multiple.Goals as goal

pub returns-in_default : goal.returns-in_default
returns-in_default c = λ x y s r f g. left_past x y s r (fitting_none c.args.left x (search rules)
    f)

pub returns-in_default-right : goal.returns-in_default-right
returns-in_default-right c = λ x y s r f g.
    right_past x y s r (fitting_none c.args.right y (search rules) g)
