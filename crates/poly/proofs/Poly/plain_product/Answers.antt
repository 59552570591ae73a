use Rattle.std.proofs.Common.{refl, ap, sym, subst}
use Rattle.polynomials.specs.Terms.{Same, times}
use Rattle.polynomials.specs.Weight.{IsPastProduct}
use Rattle.polynomials.proofs.Past.{past_product_comm}
use Rattle.poly.specs.View.{terms_of}
use Rattle.poly.specs.Seen.{terms_in}
use Rattle.poly.proofs.IsLaws.{is_as}
use Rattle.poly.proofs.Steps.{all_arity}
use Rattle.poly.proofs.Products.{product_turned}
use Rattle.poly.proofs.Poly.plain_product.Goals as goal

pub product_with-requires : goal.product_with-requires
product_with-requires g c = record {
  arities = rw (c.deref.ensures.value, sym c.requires.arity)
      (all_arity g.K.Ring.meaning _ c.args.self.now.terms.items c.args.self.now.polynomial.arity);
}

pub product_with-requires-else-len : goal.product_with-requires-else-len
product_with-requires-else-len g c =
    record {
      arities = rw (c.deref-else-len.ensures.value, c.requires.arity)
          (all_arity g.K.Ring.meaning _ c.args.other.now.terms.items
          c.args.other.now.polynomial.arity);
    }

pub returns-then-len-clause-wide : goal.returns-then-len-clause-wide
returns-then-len-clause-wide g c =
    let seen = ap (terms_of g.K.Ring.meaning) c.deref.ensures.value in
    λ w. subst (λ ts. IsPastProduct g.K.Ring.scalars ts (terms_in c.args.other.now)) seen
    (c.product_with.ensures.wide w)

pub returns-then-len-clause-product : goal.returns-then-len-clause-product
returns-then-len-clause-product g c =
    let seen = ap (terms_of g.K.Ring.meaning) c.deref.ensures.value in
    is_as c.product_with.result _ _ _ _ _ _ (sym c.requires.order) (sym c.requires.arity) (λ p same.
    subst (λ ts. Same g.K.Ring.scalars.arithmetic (terms_in p)
    (times g.K.Ring.scalars.arithmetic ts (terms_in c.args.other.now))) seen same)
    c.product_with.ensures.product

pub returns-else-len-clause-wide : goal.returns-else-len-clause-wide
returns-else-len-clause-wide g c =
    let seen = ap (terms_of g.K.Ring.meaning) c.deref-else-len.ensures.value in
    λ w. past_product_comm g.K.Ring.scalars g.met.K.Ring.ring g.met.K.Ring.bounded _ _
    (subst (λ ts. IsPastProduct g.K.Ring.scalars ts (terms_in c.args.self.now)) seen
    (c.product_with-else-len.ensures.wide w))

pub returns-else-len-clause-product : goal.returns-else-len-clause-product
returns-else-len-clause-product g c =
    let seen = ap (terms_of g.K.Ring.meaning) c.deref-else-len.ensures.value in
    is_as c.product_with-else-len.result _ _ _ _ _ _ refl refl (λ p same.
    product_turned g.K.Ring.scalars g.met.K.Ring.ring _ _ _ _ seen same)
    c.product_with-else-len.ensures.product
