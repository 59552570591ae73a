use Rattle.std.proofs.Common.{refl, ap, ap₂, subst, ◌++◌, sym, ◌∙◌}
use Rattle.polynomials.specs.Terms.{negate}
use Rattle.polynomials.specs.Weight.{IsPastSum}
use Rattle.polynomials.specs.Terms.{Same}
use Rattle.poly.specs.View.{terms_of}
use Rattle.poly.specs.Seen.{terms_in}
use Rattle.poly.proofs.IsLaws.{is_as}
use Rattle.poly.proofs.Kept.{polynomial_in}
use Rattle.poly.proofs.Steps.{polynomial_negate, past_difference}
use Rattle.poly.proofs.Poly.sub.Goals as goal

pub merge-requires-clause-right : goal.merge-requires-clause-right
merge-requires-clause-right g c =
    let k = terms_of g.K.Ring.meaning in
    polynomial_negate g.K.Ring.scalars g.met.K.Ring.ring _ _ (k c.args.other.now.terms.items) _
    (polynomial_in g.K.Ring.scalars _ _ _ _ _ (ap g.O.Order.order (sym c.requires.order))
    (sym c.requires.arity) c.args.other.now.polynomial)
    (ap k c.from_vec.ensures.items ∙ c.in_ok-right.ensures.ok
    ∙ ap (λ ts. negate g.K.Ring.scalars.arithmetic (k ts)) c.deref.ensures.value)

pub returns-clause-wide : goal.returns-clause-wide
returns-clause-wide g c =
    let k = terms_of g.K.Ring.meaning in
    λ w. past_difference g.K.Ring.scalars g.met.K.Ring.ring g.met.K.Ring.bounded _ _ _
    (ap k c.from_vec.ensures.items ∙ c.in_ok-right.ensures.ok
    ∙ ap (λ ts. negate g.K.Ring.scalars.arithmetic (k ts)) c.deref.ensures.value)
    (subst (λ ts. IsPastSum g.K.Ring.scalars ts (k c.from_vec.result.items))
    (ap k c.as_slice-left.ensures.value) (c.merge.ensures.wide w))

pub returns-clause-difference : goal.returns-clause-difference
returns-clause-difference g c =
    let k = terms_of g.K.Ring.meaning in
    let right = ap k c.from_vec.ensures.items ∙ c.in_ok-right.ensures.ok
    ∙ ap (λ ts. negate g.K.Ring.scalars.arithmetic (k ts)) c.deref.ensures.value in
    is_as c.merge.result _ _ _ _ _ _ refl refl (λ p same.
    subst (Same g.K.Ring.scalars.arithmetic (terms_in p))
    (ap₂ ◌++◌ (ap k c.as_slice-left.ensures.value) right) same) c.merge.ensures.sum
