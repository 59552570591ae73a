use Rattle.std.proofs.Common.{sym, subst}
use Rattle.poly.specs.Seen.{terms_in, terms_each, arity_of}
use Rattle.loop_model.specs.Operations.{sum_at, difference_at, product_at}
use Rattle.loop_model.specs.Stops.{Does, IsFormed}
use Rattle.loop_model.specs.ExpressionView.{binary_of}
use Rattle.loop_model.proofs.FormedLaws.{formed_add, formed_sub, formed_mul}
use Rattle.loop_model.proofs.forming.binary_poly.Goals as goal

pub returns-in-Add : goal.returns-in-Add
returns-in-Add c = λ ps e f h k.
    let p = c.args.left.now in
    let q = c.args.right.now in
    subst (λ o. IsFormed ps (binary_of o c.args.at e f) c.sum.result) (sym c.in-Add.is)
    (formed_add (arity_of ps) (terms_each ps) c.args.at e f p q h k c.sum.result
    (subst (λ m. Does m (sum_at c.args.at (terms_in p) (terms_in q)) c.sum.result) h.0.arity
    c.sum.ensures))

pub returns-in-Sub : goal.returns-in-Sub
returns-in-Sub c = λ ps e f h k.
    let p = c.args.left.now in
    let q = c.args.right.now in
    subst (λ o. IsFormed ps (binary_of o c.args.at e f) c.difference.result) (sym c.in-Sub.is)
    (formed_sub (arity_of ps) (terms_each ps) c.args.at e f p q h k c.difference.result
    (subst (λ m. Does m (difference_at c.args.at (terms_in p) (terms_in q)) c.difference.result)
    h.0.arity c.difference.ensures))

pub returns-in-Mul : goal.returns-in-Mul
returns-in-Mul c = λ ps e f h k.
    let p = c.args.left.now in
    let q = c.args.right.now in
    subst (λ o. IsFormed ps (binary_of o c.args.at e f) c.product.result) (sym c.in-Mul.is)
    (formed_mul (arity_of ps) (terms_each ps) c.args.at e f p q h k c.product.result
    (subst (λ m. Does m (product_at c.args.at (terms_in p) (terms_in q)) c.product.result)
    h.0.arity c.product.ensures))
