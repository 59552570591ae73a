use Rattle.std.proofs.Common.{sym, subst}
use Rattle.poly.specs.Seen.{terms_in, terms_each, arity_of}
use Rattle.loop_model.specs.Operations.{opposite_at, quotient_at, partial_powers, power_of}
use Rattle.loop_model.specs.Stops.{Forms, Does, IsFormed}
use Rattle.loop_model.specs.ExpressionView.{unary_of}
use Rattle.loop_model.proofs.FormedLaws.{formed_neg, formed_divide, formed_power}
use Rattle.loop_model.proofs.forming.unary_poly.Goals as goal

pub returns-in-Neg : goal.returns-in-Neg
returns-in-Neg c = λ ps e h.
    let p = c.args.of.now in
    subst (λ o. IsFormed ps (unary_of o c.args.at e) c.opposite.result) (sym c.in-Neg.is)
    (formed_neg (arity_of ps) (terms_each ps) c.args.at e p h c.opposite.result
    (subst (λ k. Does k (opposite_at c.args.at (terms_in p)) c.opposite.result) h.0.arity
    c.opposite.ensures))

pub returns-in-Div : goal.returns-in-Div
returns-in-Div c = λ ps e h.
    let p = c.args.of.now in
    let n = c.in-Div.by.value in
    subst (λ o. IsFormed ps (unary_of o c.args.at e) c.quotient.result) (sym c.in-Div.is)
    (formed_divide (arity_of ps) (terms_each ps) c.args.at e p h c.quotient.result n
    (subst (λ k. Does k (quotient_at k c.args.at (terms_in p) n) c.quotient.result) h.0.arity
    c.quotient.ensures))

pub returns-in-Power : goal.returns-in-Power
returns-in-Power c = λ ps e h.
    let p = c.args.of.now in
    let n = c.in-Power.exponent in
    subst (λ o. IsFormed ps (unary_of o c.args.at e) c.power.result) (sym c.in-Power.is)
    (formed_power (arity_of ps) (terms_each ps) c.args.at e p h c.power.result n
    (subst (λ k. Forms k (partial_powers k c.args.at (terms_in p) n) (power_of k (terms_in p) n)
    c.power.result) h.0.arity c.power.ensures))
