use Rattle.std.proofs.Common.{sym, subst}
use Rattle.poly.specs.Seen.{terms_in}
use Rattle.loop_model.specs.Operations.{sum_at}
use Rattle.loop_model.specs.Stops.{Does}
use Rattle.loop_model.proofs.OperatorLaws.{sum_does}
use Rattle.loop_model.proofs.forming.sum.Goals as goal

pub returns : goal.returns
returns c =
    let left = c.args.left.now in
    let right = c.args.right.now in
    subst (Does left.arity (sum_at c.args.at (terms_in left) (terms_in right)))
    (sym c.answer_at.ensures) (sum_does c.args.at left right c.add.result c.requires
    c.add.ensures.sum c.add.ensures.wide)
