use Rattle.std.proofs.Common.{sym, subst}
use Rattle.poly.specs.Seen.{terms_in}
use Rattle.loop_model.specs.Operations.{difference_at}
use Rattle.loop_model.specs.Stops.{Does}
use Rattle.loop_model.proofs.OperatorLaws.{difference_does}
use Rattle.loop_model.proofs.forming.difference.Goals as goal

pub returns : goal.returns
returns c =
    let left = c.args.left.now in
    let right = c.args.right.now in
    subst (Does left.arity (difference_at c.args.at (terms_in left) (terms_in right)))
    (sym c.answer_at.ensures) (difference_does c.args.at left right c.sub.result c.requires
    c.sub.ensures.difference c.sub.ensures.wide)
