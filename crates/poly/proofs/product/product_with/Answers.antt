use Rattle.std.proofs.Common.{ap, refl, subst}
use Rattle.polynomials.specs.Terms.{Same, times}
use Rattle.polynomials.specs.Weight.{IsPastProduct}
use Rattle.poly.specs.Seen.{terms_in}
use Rattle.poly.specs.View.{terms_of}
use Rattle.poly.proofs.IsLaws.{is_as}
use Rattle.poly.proofs.Steps.{all_arity}
use Rattle.poly.proofs.product.product_with.Goals as goal

pub grid_for-requires-clause-right : goal.grid_for-requires-clause-right
grid_for-requires-clause-right g c =
    rw c.deref.ensures.value (all_arity g.K.Ring.meaning _ c.args.factor.now.terms.items
    c.args.factor.now.polynomial.arity)

pub returns-in-Some-clause-product : goal.returns-in-Some-clause-product
returns-in-Some-clause-product g c =
    let seen = ap (terms_of g.K.Ring.meaning) c.deref-in-Some.ensures.value in
    is_as c.dense_product.result _ _ _ _ _ _ refl refl
    (λ p same.
    subst (λ ts. Same g.K.Ring.scalars.arithmetic (terms_in p)
    (times g.K.Ring.scalars.arithmetic (terms_of g.K.Ring.meaning c.args.terms.now) ts))
    seen same) c.dense_product.ensures.product

pub returns-in-Some-clause-wide : goal.returns-in-Some-clause-wide
returns-in-Some-clause-wide g c =
    let seen = ap (terms_of g.K.Ring.meaning) c.deref-in-Some.ensures.value in
    λ w. subst (IsPastProduct g.K.Ring.scalars (terms_of g.K.Ring.meaning c.args.terms.now)) seen
    (c.dense_product.ensures.wide w)
