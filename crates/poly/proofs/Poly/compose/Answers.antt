use Rattle.std.proofs.Common.{◌<◌, length, sym, ap, subst, arith}
use Rattle.polynomials.specs.Weight.{IsPastComposition}
use Rattle.poly.specs.Seen.{AreImages, terms_each, arity_of}
use Rattle.poly.specs.View.{terms_of}
use Rattle.poly.proofs.Composing.{images_all, first_arity}
use Rattle.poly.proofs.Poly.compose.Goals as goal

pub compose_terms-requires-clause-images : goal.compose_terms-requires-clause-images
compose_terms-requires-clause-images g c =
    let items = c.args.images.now.items in
    let some : 0 < length items = omega (arith, c.requires.count, c.requires.some) in
    subst (λ qs. AreImages c.args.self.now.order c.index.result.now.arity qs)
    (sym c.deref-2.ensures.value)
    (subst (λ m. AreImages c.args.self.now.order m items)
    (sym (first_arity items c.index.result.now some c.index.ensures))
    (images_all c.args.self.now.order (arity_of items) items c.requires.orders
    c.requires.arities))

pub returns-clause-wide : goal.returns-clause-wide
returns-clause-wide g c =
    let k = terms_of g.K.Ring.meaning in
    λ w. subst (λ ts. IsPastComposition g.K.Ring.scalars ts (terms_each c.args.images.now.items))
    (ap k c.deref.ensures.value)
    (subst (λ qs. IsPastComposition g.K.Ring.scalars (k c.deref.result.now) (terms_each qs))
    c.deref-2.ensures.value (c.compose_terms.ensures.wide w))
