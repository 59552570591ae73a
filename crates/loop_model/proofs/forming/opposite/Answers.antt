use Rattle.std.proofs.Common.{sym, subst}
use Rattle.poly.specs.Seen.{terms_in}
use Rattle.loop_model.specs.Operations.{opposite_at}
use Rattle.loop_model.specs.Stops.{Does}
use Rattle.loop_model.proofs.OperatorLaws.{opposite_does}
use Rattle.loop_model.proofs.forming.opposite.Goals as goal

pub returns : goal.returns
returns c = subst (Does c.args.of.now.arity (opposite_at c.args.at (terms_in c.args.of.now)))
    (sym c.answer_at.ensures) (opposite_does c.args.at c.args.of.now c.in_ok-neg.field-0
    c.in_ok-neg.ensures.opposite)
