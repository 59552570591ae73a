use Rattle.std.proofs.Common.{◌<◌, ◌∙◌, [], ◌∷◌, ap, subst, arith, unsigned_abs}
use Rattle.std.proofs.lemmas.List.{map-append}
use Rattle.algebra.specs.Arithmetic.{power}
use Rattle.algebra.specs.Fraction.{ℚ}
use Rattle.polynomials.specs.Order.{grevlex}
use Rattle.polynomials.specs.Polynomial.{IsPolynomial}
use Rattle.coprime_base.specs.Sizes.{sizes}
use Rattle.frac128.specs.FracMeaning.{fraction_of}
use Rattle.poly.specs.Seen.{terms_in, terms_each}
use Rattle.expo.proofs.AtIterations.{powers_next, past_later}
use Rattle.exponentials.specs.Base.{Coprime}
use Rattle.expo.proofs.points.+push_powers.Goals as goal

pub returns-clause-images : goal.returns-clause-images
returns-clause-images t c =
    let p = c.in_ok-constant.field-0 in
    let i = c.in_ok-constant.ensures.constant in
    let w = c.in-Some.number.now in
    let is = c.in-Some.ensures.cases.0 in
    let above = (subst (λ l. Coprime (sizes l)) is c.requires.base).0 in
    let low : 0 < unsigned_abs w.value = omega (arith, above) in
    powers_next c.args.inverted c.args.iterations c.args.vars c.push_powers.result c.args.base.now
    c.in-Some.base.now w (terms_each c.args.images.now.items)
    (terms_each c.push.new.self.items) (terms_each c.push_powers.new.images.items) (terms_in p)
    (fraction_of c.in_ok-power.power) is
    (c.in_ok-power.ensures.ok ∙ ap (λ x. power ℚ x c.args.iterations) c.factor_of.ensures) low
    (subst (λ n. IsPolynomial ℚ grevlex n (terms_in p)) i.arity p.polynomial) i.same
    (ap terms_each c.in_ok-push.ensures.items ∙ map-append terms_in c.args.images.now.items
    (p ∷ []))
    c.push_powers.ensures.images

pub returns-clause-wide : goal.returns-clause-wide
returns-clause-wide t c = λ e. past_later c.args.iterations c.args.base.now c.in-Some.base.now
    c.in-Some.number.now c.in-Some.ensures.cases.0 (c.push_powers.ensures.wide e)
