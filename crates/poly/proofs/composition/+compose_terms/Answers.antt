use Rattle.std.proofs.Common.{◌++◌, sym, ap, subst, ◌∙◌}
use Rattle.std.specs.Result.{IfOk}
use Rattle.std.proofs.lemmas.Result.{err_from_is_err_and}
use Rattle.polynomials.specs.Terms.{Terms, Same, compose}
use Rattle.polynomials.specs.Weight.{IsPastComposition}
use Rattle.algebra.proofs.Lists.{nil_from_length, one_from_length}
use Rattle.poly.specs.Seen.{Is, terms_in, terms_each}
use Rattle.poly.specs.View.{term_of, terms_of}
use Rattle.poly.proofs.Halves.{parts}
use Rattle.poly.proofs.Composing.{nothing_composed, halves_composed, wide_front, wide_back, wide_halves}
use Rattle.poly.proofs.composition.+compose_terms.Goals as goal

pub returns-in-empty-clause-composition : goal.returns-in-empty-clause-composition
returns-in-empty-clause-composition g t c = record {
  order = c.zero.ensures.order;
  arity = c.zero.ensures.arity;
  same = nothing_composed g.met.K.Ring.ring c.args.order c.args.arity c.args.images.now _ _
      (ap (terms_of g.K.Ring.meaning) (nil_from_length _ c.in-empty.len_below))
      c.zero.ensures.terms;
}

pub returns-in-len1-clause-composition : goal.returns-in-len1-clause-composition
returns-in-len1-clause-composition g t c =
    let one = one_from_length _ _ c.in-len1.len_at_least c.in-len1.len_below c.term-item.is in
    subst (λ ts.
    IfOk c.term_composed.result (Is c.args.order c.args.arity
    (compose g.K.Ring.scalars.arithmetic c.args.arity ts (terms_each c.args.images.now))))
    (sym (ap (terms_of g.K.Ring.meaning) one)) c.term_composed.ensures.composition

pub returns-in-len1-clause-wide : goal.returns-in-len1-clause-wide
returns-in-len1-clause-wide g t c =
    let one = one_from_length _ _ c.in-len1.len_at_least c.in-len1.len_below c.term-item.is in
    λ w. subst (λ ts. IsPastComposition g.K.Ring.scalars ts (terms_each c.args.images.now))
    (sym (ap (terms_of g.K.Ring.meaning) one)) (c.term_composed.ensures.wide w)

pub returns-in_err-left-in_default-clause-wide : goal.returns-in_err-left-in_default-clause-wide
returns-in_err-left-in_default-clause-wide g t c =
    let p = err_from_is_err_and c.from_residual.result c.from_residual.ensures.1 in
    λ w. wide_front g.met.K.Ring.ring c.args.order c.args.arity g.met.K.Ring.bounded
    c.args.images.now _ _ _ (parts (term_of g.K.Ring.meaning) _ _ _ c.split_at.ensures.front
    c.split_at.ensures.back) (c.in_err-left-in_default.ensures.wide (cc (p.1, p.2)))

pub returns-in_err-right-in_default-clause-wide : goal.returns-in_err-right-in_default-clause-wide
returns-in_err-right-in_default-clause-wide g t c =
    let p = err_from_is_err_and c.from_residual-in_err-right-in_default.result
    c.from_residual-in_err-right-in_default.ensures.1 in
    λ w. wide_back g.met.K.Ring.ring c.args.order c.args.arity g.met.K.Ring.bounded
    c.args.images.now _ _ _ (parts (term_of g.K.Ring.meaning) _ _ _ c.split_at.ensures.front
    c.split_at.ensures.back) (c.in_err-right-in_default.ensures.wide (cc (p.1, p.2)))

pub plus-requires : goal.plus-requires
plus-requires g t c =
    let left = c.in_ok-left-in_default.ensures.composition in
    let right = c.in_ok-right-in_default.ensures.composition in
    record { order = left.order ∙ sym right.order; arity = left.arity ∙ sym right.arity }

pub returns-in_ok-sum-in_default-clause-composition :
    goal.returns-in_ok-sum-in_default-clause-composition
returns-in_ok-sum-in_default-clause-composition g t c =
    let left = c.in_ok-left-in_default.ensures.composition in
    let sum = c.in_ok-sum-in_default.ensures.sum in
    let v = c.without_spare_room.ensures in
    record {
      order = v.order ∙ sum.order ∙ left.order;
      arity = v.arity ∙ sum.arity ∙ left.arity;
      same = halves_composed g.met.K.Ring.ring c.args.order c.args.arity c.args.images.now _ _ _ _
          _ _ (parts (term_of g.K.Ring.meaning) _ _ _ c.split_at.ensures.front
          c.split_at.ensures.back) left.same c.in_ok-right-in_default.ensures.composition.same
          (subst (λ (z : Terms g.K.Ring.scalars.Elem).
          Same g.K.Ring.scalars.arithmetic z (terms_in c.in_ok-left-in_default.left
          ++ terms_in c.in_ok-right-in_default.right)) (sym v.terms) sum.same);
    }

pub returns-in_err-sum-in_default-clause-wide : goal.returns-in_err-sum-in_default-clause-wide
returns-in_err-sum-in_default-clause-wide g t c =
    let p = err_from_is_err_and c.from_residual-in_err-sum-in_default.result
    c.from_residual-in_err-sum-in_default.ensures.1 in
    λ w. wide_halves g.met.K.Ring.ring c.args.order c.args.arity g.met.K.Ring.bounded
    (g.met.O.Order.is_order c.args.order) c.args.images.now _ _ _ _ _
    (parts (term_of g.K.Ring.meaning) _ _ _ c.split_at.ensures.front c.split_at.ensures.back)
    c.in_ok-left-in_default.ensures.composition c.in_ok-right-in_default.ensures.composition
    (c.in_err-sum-in_default.ensures.wide (cc (p.1, p.2)))
