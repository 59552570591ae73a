use Rattle.std.proofs.Common.{◌≡◌, ◌⊎◌, ◌∷◌, ◌++◌, map, take, drop, ◌+◌, length, arith, refl, sym, ap, subst, ◌∙◌}
use Rattle.std.proofs.lemmas.List.{take_all, map-append}
use Rattle.std.proofs.lemmas.Result.{err_from_is_err_and}
use Rattle.polynomials.specs.Exponent.{plus}
use Rattle.polynomials.specs.Polynomial.{IsPolynomial}
use Rattle.polynomials.specs.Terms.{Terms, Same, shift}
use Rattle.polynomials.specs.Weight.{degrees, FitsMonomial, IsPastSum}
use Rattle.poly.specs.Multiple.{IsPastMultiple}
use Rattle.algebra.proofs.Lists.{at_index, take_next}
use Rattle.poly.specs.Seen.{terms_in}
use Rattle.poly.specs.View.{term_of, terms_of}
use Rattle.poly.proofs.Kept.{polynomial_in}
use Rattle.poly.proofs.Multiples.{less_multiple, past_raise, past_raise_one}
use Rattle.poly.proofs.Raising.{begin_raising, step_raising, next_above, polynomial_back, drop_next, cut_next}
use Rattle.poly.proofs.Steps.{arity_at}
use Rattle.poly.proofs.Poly.sub_multiple.Goals as goal

pub loop-term-init : goal.loop-term-init
loop-term-init g c =
    let k = terms_of g.K.Ring.meaning in
    let front : length c.in_ok-front.front.items ≡ 0 = ap length c.in_ok-front.ensures.items in
    let back = ap length c.from_vec-back.ensures.items in
    let others = ap length c.deref-term-items.ensures.value in
    let room = c.in_ok-front.ensures.capacity in
    let sum = c.in-Some.ensures.1 in
    let own_count = c.len.ensures in
    let count = c.len-2.ensures in
    let own_long = c.args.self.terms.ok.0 in
    let long = c.args.other.now.terms.ok.0 in (
      begin_raising _ _ _ _ _ _ _ _ _ (ap k c.in_ok-front.ensures.items)
          (ap k c.from_vec-back.ensures.items) c.args.self.polynomial,
      omega (arith, front, back, others, room, sum, own_count, count, own_long, long),
    )

pub put_product-requires-clause-long : goal.put_product-requires-clause-long
put_product-requires-clause-long g c =
    let t = term_of g.K.Ring.meaning in
    let kept : IsPolynomial g.K.Ring.scalars.arithmetic (g.O.Order.order c.args.other.now.order)
    c.args.other.now.arity (map t c.deref-term-items.result.now) =
    rw c.deref-term-items.ensures.value c.args.other.now.polynomial in
    c.requires.factor ∙ c.requires.arity
    ∙ sym (arity_at c.args.other.now.arity (map t c.deref-term-items.result.now) _ _ _
    kept.arity (at_index t _ _ _ c.loop-term-test.true c.term-item.is))

pub put_product-requires-clause-descending : goal.put_product-requires-clause-descending
put_product-requires-clause-descending g c =
    subst (λ n. IsPolynomial g.K.Ring.scalars.arithmetic (g.O.Order.order c.args.self.order) n
    (terms_of g.K.Ring.meaning c.loop-term.front.items ++ terms_of g.K.Ring.meaning
    c.loop-term.back.items)) (sym c.requires.factor) c.loop-term.invariant.0.descending

pub put_product-requires-clause-above : goal.put_product-requires-clause-above
put_product-requires-clause-above g c =
    let t = term_of g.K.Ring.meaning in
    next_above _ g.met.K.Ring.ring _ (g.met.O.Order.is_order c.args.self.order) _ _ _
    c.requires.factor _ _ _ _ _ _ _ (drop_next t _ _ _ c.loop-term-test.true c.term-item.is)
    c.loop-term.invariant.0

pub returns-in_err-put_product-clause-wide : goal.returns-in_err-put_product-clause-wide
returns-in_err-put_product-clause-wide g c =
    let t = term_of g.K.Ring.meaning in
    let S = g.K.Ring.scalars in
    let p = err_from_is_err_and c.from_residual-in_err-put_product.result
    c.from_residual-in_err-put_product.ensures.1 in
    let seen = ap (terms_of g.K.Ring.meaning) c.deref-term-items.ensures.value in
    λ w. subst (λ (q : Terms S.Elem). IsPastMultiple S (terms_in c.args.self) c.args.factor.now.mono
    (g.K.Ring.meaning c.args.factor.now.coef) q) seen
    (past_raise S g.met.K.Ring.ring g.met.K.Ring.bounded (terms_in c.args.self)
    (map t c.deref-term-items.result.now) _ _ _ _ _ _ _ c.neg-number.ensures
    (at_index t _ _ _ c.loop-term-test.true c.term-item.is) c.loop-term.invariant.0.sum
    (c.in_err-put_product.ensures.wide (cc (p.1, p.2))))

pub returns-in_err-put_product-clause-shifted : goal.returns-in_err-put_product-clause-shifted
returns-in_err-put_product-clause-shifted g c =
    let t = term_of g.K.Ring.meaning in
    let S = g.K.Ring.scalars in
    let p = err_from_is_err_and c.from_residual-in_err-put_product.result
    c.from_residual-in_err-put_product.ensures.1 in
    let seen = ap (terms_of g.K.Ring.meaning) c.deref-term-items.ensures.value in
    λ one w. subst (λ (q : Terms S.Elem). IsPastSum S (terms_in c.args.self) q
    ⊎ ¬ (FitsMonomial (plus c.args.factor.now.mono (degrees q)))) seen
    (past_raise_one S g.met.K.Ring.ring g.met.K.Ring.bounded (terms_in c.args.self)
    (map t c.deref-term-items.result.now) _ _ _ _ _ _ _ one c.neg-number.ensures
    (at_index t _ _ _ c.loop-term-test.true c.term-item.is) c.loop-term.invariant.0.sum
    (c.in_err-put_product.ensures.wide (cc (p.1, p.2))))

pub loop-term-preserved : goal.loop-term-preserved
loop-term-preserved g c =
    let t = term_of g.K.Ring.meaning in
    let S = g.K.Ring.scalars in
    let O = g.O.Order.order in
    let kept : IsPolynomial S.arithmetic (O c.args.other.now.order) c.args.other.now.arity
    (map t c.deref-term-items.result.now) = rw c.deref-term-items.ensures.value
    c.args.other.now.polynomial in
    let cut : map t c.deref-term-items.result.now
    ≡ map t (take c.loop-term.term-index c.deref-term-items.result.now) ++ t c.term-item.result
    ∷ map t (drop (c.loop-term.term-index + 1) c.deref-term-items.result.now) =
    cut_next t _ _ _ c.loop-term-test.true c.term-item.is in
    let own : IsPolynomial S.arithmetic (O c.args.self.order) c.args.self.arity
    (map t c.deref-term-items.result.now) =
    polynomial_in S _ _ _ _ _ (ap O (sym c.requires.order)) (sym c.requires.arity) kept in
    let later = polynomial_back (O c.args.self.order) S c.args.self.arity _ _
    (subst (IsPolynomial S.arithmetic (O c.args.self.order) c.args.self.arity) cut own) in
    let fits = c.loop-term.invariant.1 in
    let more = c.loop-term-test.true in
    let count = c.in_ok-put_product.ensures.count in
    let room = c.in_ok-put_product.ensures.room in (
      step_raising S g.met.K.Ring.ring _ (g.met.O.Order.is_order c.args.self.order) _ _ _
          c.requires.factor _ _ _ _ _ _ _ _ _ _ (drop_next t _ _ _ c.loop-term-test.true
          c.term-item.is) (take_next t _ _ _ c.loop-term-test.true c.term-item.is)
          later c.in_ok-put_product.ensures.ok c.loop-term.invariant.0,
      omega (arith, fits, more, count, room),
    )

pub invariant_of-result : goal.invariant_of-result
invariant_of-result g c =
    let t = term_of g.K.Ring.meaning in
    let whole : map t c.append.new.self.items ≡ map t c.loop-term.front.items
    ++ map t c.loop-term.back.items = ap (map t) (c.in_ok-append.ensures.items
    ∙ ap (λ l. c.loop-term.front.items ++ l) c.into_vec.ensures.items) ∙ map-append t _ _ in
    record {
      few = c.args.self.few;
      polynomial =
          subst (IsPolynomial g.K.Ring.scalars.arithmetic (g.O.Order.order c.args.self.order)
          c.args.self.arity) (sym whole) c.loop-term.invariant.0.descending;
    }

pub returns-clause-difference : goal.returns-clause-difference
returns-clause-difference g c =
    let t = term_of g.K.Ring.meaning in
    let S = g.K.Ring.scalars in
    let whole : map t c.append.new.self.items ≡ map t c.loop-term.front.items
    ++ map t c.loop-term.back.items = ap (map t) (c.in_ok-append.ensures.items
    ∙ ap (λ l. c.loop-term.front.items ++ l) c.into_vec.ensures.items) ∙ map-append t _ _ in
    let all : map t (take c.loop-term.term-index c.deref-term-items.result.now)
    ≡ terms_in c.args.other.now = ap (map t) (take_all _ _ c.loop-term-test.false
    ∙ c.deref-term-items.ensures.value) in
    record {
      order = refl;
      arity = refl;
      same = less_multiple S g.met.K.Ring.ring _ _ _ _ _ _ _ c.neg-number.ensures whole
          (subst (λ (q : Terms S.Elem). Same S.arithmetic (map t c.loop-term.front.items
          ++ map t c.loop-term.back.items) (terms_in c.args.self ++ shift S.arithmetic
          c.args.factor.now.mono (g.K.Ring.meaning c.neg-number.result) q)) all
          c.loop-term.invariant.0.sum);
    }
