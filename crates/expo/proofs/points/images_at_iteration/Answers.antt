use Rattle.std.proofs.Common.{◌∙◌, [], ◌∷◌, ◌++◌, ap, subst}
use Rattle.std.proofs.lemmas.List.{map-append}
use Rattle.algebra.specs.Fraction.{ℚ}
use Rattle.polynomials.specs.Order.{grevlex}
use Rattle.polynomials.specs.Polynomial.{IsPolynomial}
use Rattle.coprime_base.specs.Sizes.{sizes}
use Rattle.frac128.specs.FracMeaning.{fraction_of}
use Rattle.poly.specs.Seen.{terms_in, terms_each}
use Rattle.expo.proofs.AtIterations.{images_made}
use Rattle.expo.proofs.points.images_at_iteration.Goals as goal

pub returns-clause-images : goal.returns-clause-images
returns-clause-images c =
    let p = c.in_ok-constant.field-0 in
    let i = c.in_ok-constant.ensures.constant in
    images_made (sizes c.args.base.now) c.args.vars c.args.iterations _ _ _ _ _
    (terms_in c.in_ok-number_of.field-0) (terms_in p) (fraction_of c.sign.result)
    c.in_ok-number_of.ensures.terms c.sign.ensures
    (subst (λ n. IsPolynomial ℚ grevlex n (terms_in p)) i.arity p.polynomial) i.same
    (ap terms_each (c.in_ok-push.ensures.items
    ∙ ap (λ l. l ++ c.in_ok-number_of.field-0 ∷ []) c.in_ok-images.ensures.items))
    (ap terms_each c.in_ok-push-2.ensures.items
    ∙ map-append terms_in c.push.new.self.items (p ∷ []))
    c.in_ok-push_powers.ensures.images c.in_ok-push_powers-2.ensures.images
    c.in_ok-push_variables.ensures.images
