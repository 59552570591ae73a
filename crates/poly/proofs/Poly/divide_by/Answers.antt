use Rattle.std.proofs.Common.{◌≡◌, length, arith, refl, sym, ap, map, replicate, subst, ◌∙◌}
use Rattle.std.proofs.lemmas.List.{take_all, length-replicate}
use Rattle.algebra.specs.Size.{IsPast, quotient_size}
use Rattle.polynomials.specs.Polynomial.{IsPolynomial}
use Rattle.polynomials.specs.Weight.{weight}
use Rattle.poly.specs.View.{term_of, terms_of}
use Rattle.polynomials.proofs.Arity.{zeros-plus}
use Rattle.poly.proofs.Multiples.{quotient_number, past_quotient_at}
use Rattle.algebra.proofs.Lists.{at_index, take_next}
use Rattle.poly.proofs.Steps.{arity_at}
use Rattle.poly.proofs.Shifting.{begin_shifting, step_shifting, scaled_at, takes_as}
use Rattle.poly.proofs.Poly.divide_by.Goals as goal

pub loop-term-init : goal.loop-term-init
loop-term-init g c =
    let none : length c.in_ok-out.out.items ≡ 0 = ap length c.in_ok-out.ensures.items in
    let all = ap length c.deref-term-items.ensures.value in
    let room = c.in_ok-out.ensures.capacity in
    let count = c.len.ensures in
    let long = c.args.self.now.terms.ok.0 in (
      begin_shifting _ g.met.K.Ring.ring _ _ _ _ _ _ _ refl
          (ap (map (term_of g.K.Ring.meaning)) c.in_ok-out.ensures.items),
      omega (arith, none, all, room, count, long),
    )

pub loop-term-preserved : goal.loop-term-preserved
loop-term-preserved g c =
    let t = term_of g.K.Ring.meaning in
    let at = at_index t _ _ _ c.loop-term-test.true c.term-item.is in
    let m = c.args.self.now.arity in
    let kept : IsPolynomial g.K.Ring.scalars.arithmetic (g.O.Order.order c.args.self.now.order) m
    (map t c.deref-term-items.result.now) = rw c.deref-term-items.ensures.value
    c.args.self.now.polynomial in
    let fits = c.loop-term.invariant.1 in
    let more = c.loop-term-test.true in
    let count = c.put_nonzero.ensures.count in
    let room = c.put_nonzero.ensures.room in (
      step_shifting g.K.Ring.scalars g.met.K.Ring.ring _ _ m (replicate m 0) _
          (map t c.deref-term-items.result.now) _ _ _ _ _ _ (length-replicate m 0) kept at
          (take_next t _ _ _ c.loop-term-test.true c.term-item.is)
          (takes_as g.K.Ring.scalars _ _ _ _ _ _ (c.in_ok-copy.ensures.ok
          ∙ sym (zeros-plus m _ (arity_at m _ _ _ _ kept.arity at)))
          (quotient_number g.K.Ring.scalars g.met.K.Ring.ring g.met.K.Field.field _ _ _ c.requires
          c.in_ok-coef.ensures.ok) c.put_nonzero.ensures.term) c.loop-term.invariant.0,
      omega (arith, fits, more, count, room),
    )

pub returns-in_err-coef-clause-wide : goal.returns-in_err-coef-clause-wide
returns-in_err-coef-clause-wide g c =
    let seen = ap (terms_of g.K.Ring.meaning) c.deref-term-items.ensures.value in
    λ _. subst
    (λ ts. IsPast (quotient_size (weight g.K.Ring.scalars.size ts)
    (g.K.Ring.scalars.size (g.K.Ring.meaning c.args.by.now)))) seen
    (past_quotient_at g.K.Ring.scalars g.met.K.Ring.ring g.met.K.Ring.bounded _ _ _ _ _
    (at_index (term_of g.K.Ring.meaning) _ _ _ c.loop-term-test.true c.term-item.is)
    (c.in_err-coef.ensures.wide refl))

pub returns-clause-quotient : goal.returns-clause-quotient
returns-clause-quotient g c =
    let k = terms_of g.K.Ring.meaning in
    let whole = ap k (take_all _ _ c.loop-term-test.false ∙ c.deref-term-items.ensures.value) in
    record {
      order = refl;
      arity = refl;
      same = scaled_at g.K.Ring.scalars g.met.K.Ring.ring _ _ _ _
          _ _ _ _ refl whole c.loop-term.invariant.0;
    }

pub invariant_of-result : goal.invariant_of-result
invariant_of-result g c = record {
  few = c.args.self.now.few;
  polynomial = c.loop-term.invariant.0.is;
}
