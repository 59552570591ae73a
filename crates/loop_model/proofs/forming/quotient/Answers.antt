use Rattle.std.proofs.Common.{IfOk, sym, subst}
use Rattle.algebra.specs.Size.{IsPast, product_size}
use Rattle.algebra.specs.Fraction.{ℚ, fractions}
use Rattle.polynomials.specs.Terms.{constant, times}
use Rattle.polynomials.specs.Weight.{weight}
use Rattle.poly.specs.Seen.{terms_in}
use Rattle.poly.specs.Standing.{StandsFor}
use Rattle.loop_model.specs.Operations.{quotient_at}
use Rattle.loop_model.specs.Stops.{Does}
use Rattle.loop_model.proofs.OperatorLaws.{quotient_does}
use Rattle.loop_model.proofs.forming.quotient.Goals as goal

pub returns : goal.returns
returns c =
    let of = c.args.of.now in
    subst (Does of.arity (quotient_at of.arity c.args.at (terms_in of) c.args.by.now.value))
    (sym c.answer_at.ensures)
    (quotient_does c.args.at of c.args.by.now.value c.scale.result c.requires
    (subst (λ a.
    IfOk c.scale.result
    (λ p. StandsFor of.arity p (times ℚ (constant of.arity a) (terms_in of))))
    c.inverse.ensures c.scale.ensures.product)
    (λ e. subst
    (λ a. IsPast (product_size (fractions.size a) (weight fractions.size (terms_in of))))
    c.inverse.ensures (c.scale.ensures.wide e)))
