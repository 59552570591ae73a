use Rattle.std.proofs.Common.{◌≡◌, true, sym, subst}
use Rattle.poly.specs.Seen.{terms_in}
use Rattle.loop_model.specs.Operations.{product_at}
use Rattle.loop_model.specs.Stops.{Does}
use Rattle.loop_model.proofs.OperatorLaws.{product_does, high_stops}
use Rattle.loop_model.proofs.forming.product.Goals as goal

pub returns-then-has_high_product : goal.returns-then-has_high_product
returns-then-has_high_product c = high_stops c.args.left.now.arity c.args.at
    (terms_in c.args.left.now) (terms_in c.args.right.now) (c.has_high_product.ensures.0
    c.if-has_high_product.true)

pub returns : goal.returns
returns c =
    let left = c.args.left.now in
    let right = c.args.right.now in
    subst (Does left.arity (product_at c.args.at (terms_in left) (terms_in right)))
    (sym c.answer_at.ensures)
    (product_does c.args.at left right c.mul.result c.requires (λ high.
    let is : c.has_high_product.result ≡ true = c.has_high_product.ensures.1 high in
    absurd (cc)) c.mul.ensures.product c.mul.ensures.wide)
