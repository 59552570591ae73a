use Rattle.std.proofs.Common.{◌≡◌, ◌∷◌, ◌++◌, map, take, length, arith, refl, sym, ap, subst, append_assoc, ◌∙◌}
use Rattle.std.proofs.lemmas.List.{take_all, map-append}
use Rattle.std.proofs.lemmas.Result.{err_from_is_err_and}
use Rattle.polynomials.specs.Polynomial.{IsPolynomial}
use Rattle.polynomials.specs.Terms.{Terms, Same, shift}
use Rattle.algebra.proofs.Lists.{at_index, take_next}
use Rattle.poly.specs.Seen.{terms_in}
use Rattle.poly.specs.View.{term_of, terms_of}
use Rattle.poly.proofs.Kept.{polynomial_in, polynomial_tail}
use Rattle.poly.proofs.Multiples.{less_multiple, past_raise}
use Rattle.poly.proofs.Raising.{Raising, begin_cancelled, step_raising, next_above, polynomial_back, drop_next, cut_next, lead_multiple, first_and_rest}
use Rattle.poly.proofs.Steps.{arity_at}
use Rattle.poly.proofs.Poly.cancel_lead.Given.{Over}
use Rattle.poly.proofs.Poly.cancel_lead.Goals.{In-Some}
use Rattle.poly.proofs.Poly.cancel_lead.Goals as goal

-- the other polynomial: its lead, and the terms after it
others : (g : Over) (c : In-Some g) → terms_in c.args.other.now
    ≡ term_of g.K.Ring.meaning c.in-Some.field-0-0.now
    ∷ terms_of g.K.Ring.meaning c.in-Some.others.now
others g c = ap (terms_of g.K.Ring.meaning) (sym c.deref.ensures.value ∙ c.in-Some.ensures.cases.0)

later : (g : Over) (c : In-Some g) → IsPolynomial g.K.Ring.scalars.arithmetic
    (g.O.Order.order c.args.self.order) c.args.self.arity
    (terms_of g.K.Ring.meaning c.in-Some.others.now)
later g c =
    let S = g.K.Ring.scalars in
    let O = g.O.Order.order in
    polynomial_tail (O c.args.self.order) S c.args.self.arity _ _
    (subst (IsPolynomial S.arithmetic (O c.args.self.order) c.args.self.arity) (others g c)
    (polynomial_in S _ _ _ _ _ (ap O (sym c.requires.order)) (sym c.requires.arity)
    c.args.other.now.polynomial))

pub loop-term-init : goal.loop-term-init
loop-term-init g c =
    let k = terms_of g.K.Ring.meaning in
    let S = g.K.Ring.scalars in
    let seen = others g (goal.at.loop-term-init g c).In-Some in
    let own : terms_in c.args.self ≡ term_of g.K.Ring.meaning c.in-Some-pop_front.field-0
    ∷ k c.pop_front.new.self.items = ap k (sym c.from_vec-back.ensures.items
    ∙ c.in-Some-pop_front.ensures.items) in
    let none = c.in_ok-reserve.ensures.items ∙ c.clear.ensures.items in
    let front = ap length none in
    let back = ap length (sym c.from_vec-back.ensures.items ∙ c.in-Some-pop_front.ensures.items) in
    let room = c.in_ok-reserve.ensures.ok in
    let sum = c.in-Some-checked_add.ensures.1 in
    let own_count = c.len.ensures in
    let own_long = c.args.self.terms.ok.0 in
    let long = c.reserve.new.self.ok.0 in (
      subst (λ (done : Terms S.Elem). Raising S (g.O.Order.order c.args.self.order)
          c.args.self.arity c.args.factor.now.mono (g.K.Ring.meaning c.neg-opposite.result)
          (terms_in c.args.self) done (k c.in-Some.others.now) (k c.reserve.new.self.items)
          (k c.pop_front.new.self.items)) (sym (ap (λ (q : Terms S.Elem). take 1 q ++ k (take 0
          c.in-Some.others.now)) seen))
          (begin_cancelled S g.met.K.Ring.ring _ (g.met.O.Order.is_order c.args.self.order) _ _ _ _
          _ _ _ _ _ _ _ c.neg-opposite.ensures (lead_multiple S _ _ _ _ _ _ _ _ own seen
          c.requires.lead) own (ap k none) refl c.args.self.polynomial),
      omega (arith, front, back, room, sum, own_count, own_long, long),
    )

pub put_product-requires-clause-long : goal.put_product-requires-clause-long
put_product-requires-clause-long g c =
    let t = term_of g.K.Ring.meaning in
    let kept = later g (goal.at.put_product-requires-clause-long g c).In-Some in
    c.requires.factor
    ∙ sym (arity_at c.args.self.arity (map t c.in-Some.others.now) _ _ _
    kept.arity (at_index t _ _ _ c.loop-term-test.true c.term-item.is))

pub put_product-requires-clause-descending : goal.put_product-requires-clause-descending
put_product-requires-clause-descending g c =
    subst (λ n. IsPolynomial g.K.Ring.scalars.arithmetic (g.O.Order.order c.args.self.order) n
    (terms_of g.K.Ring.meaning c.loop-term.front.items ++ terms_of g.K.Ring.meaning
    c.loop-term.back.items)) (sym c.requires.factor) c.loop-term.invariant.0.descending

pub put_product-requires-clause-above : goal.put_product-requires-clause-above
put_product-requires-clause-above g c =
    let t = term_of g.K.Ring.meaning in
    next_above _ g.met.K.Ring.ring _ (g.met.O.Order.is_order c.args.self.order) _ _ _
    c.requires.factor _ _ _ _ _ _ _ (drop_next t _ _ _ c.loop-term-test.true c.term-item.is)
    c.loop-term.invariant.0

pub returns-in_err-put_product-clause-wide : goal.returns-in_err-put_product-clause-wide
returns-in_err-put_product-clause-wide g c =
    let t = term_of g.K.Ring.meaning in
    let S = g.K.Ring.scalars in
    let p = err_from_is_err_and c.from_residual-in_err-put_product.result
    c.from_residual-in_err-put_product.ensures.1 in
    let seen = others g (goal.at.returns-in_err-put_product-clause-wide g c).In-Some in
    let first = take 1 (terms_in c.args.other.now) in
    let cut = sym (first_and_rest _ _ _ seen)
    ∙ ap (λ (q : Terms S.Elem). first ++ q)
    (cut_next t _ _ _ c.loop-term-test.true c.term-item.is) ∙ sym (append_assoc first _ _) in
    λ w. past_raise S g.met.K.Ring.ring g.met.K.Ring.bounded (terms_in c.args.self)
    (terms_in c.args.other.now) _ _ _ _ _ _ _ c.neg-opposite.ensures cut
    c.loop-term.invariant.0.sum (c.in_err-put_product.ensures.wide (cc (p.1, p.2)))

pub loop-term-preserved : goal.loop-term-preserved
loop-term-preserved g c =
    let t = term_of g.K.Ring.meaning in
    let S = g.K.Ring.scalars in
    let O = g.O.Order.order in
    let first = take 1 (terms_in c.args.other.now) in
    let after = polynomial_back (O c.args.self.order) S c.args.self.arity _ _
    (subst (IsPolynomial S.arithmetic (O c.args.self.order) c.args.self.arity)
    (cut_next t _ _ _ c.loop-term-test.true c.term-item.is)
    (later g (goal.at.loop-term-preserved g c).In-Some)) in
    let more = ap (λ (q : Terms S.Elem). first ++ q)
    (take_next t _ _ _ c.loop-term-test.true c.term-item.is) ∙ sym (append_assoc first _ _) in
    let fits = c.loop-term.invariant.1 in
    let test = c.loop-term-test.true in
    let count = c.in_ok-put_product.ensures.count in
    let room = c.in_ok-put_product.ensures.room in (
      step_raising S g.met.K.Ring.ring _ (g.met.O.Order.is_order c.args.self.order) _ _ _
          c.requires.factor _ _ _ _ _ _ _ _ _ _ (drop_next t _ _ _ c.loop-term-test.true
          c.term-item.is) more after c.in_ok-put_product.ensures.ok c.loop-term.invariant.0,
      omega (arith, fits, test, count, room),
    )

pub invariant_of-left : goal.invariant_of-left
invariant_of-left g c =
    let t = term_of g.K.Ring.meaning in
    let whole : map t c.append.new.self.items ≡ map t c.loop-term.front.items
    ++ map t c.loop-term.back.items = ap (map t) (c.in_ok-append.ensures.items
    ∙ ap (λ l. c.loop-term.front.items ++ l) c.into_vec-rest.ensures.items) ∙ map-append t _ _ in
    record {
      few = c.args.self.few;
      polynomial =
          subst (IsPolynomial g.K.Ring.scalars.arithmetic (g.O.Order.order c.args.self.order)
          c.args.self.arity) (sym whole) c.loop-term.invariant.0.descending;
    }

pub returns-clause-difference : goal.returns-clause-difference
returns-clause-difference g c =
    let t = term_of g.K.Ring.meaning in
    let S = g.K.Ring.scalars in
    let whole : map t c.append.new.self.items ≡ map t c.loop-term.front.items
    ++ map t c.loop-term.back.items = ap (map t) (c.in_ok-append.ensures.items
    ∙ ap (λ l. c.loop-term.front.items ++ l) c.into_vec-rest.ensures.items) ∙ map-append t _ _ in
    let seen = others g (goal.at.returns-clause-difference g c).In-Some in
    let first = take 1 (terms_in c.args.other.now) in
    let all = ap (λ (q : Terms S.Elem). first ++ q)
    (ap (map t) (take_all _ _ c.loop-term-test.false)) ∙ first_and_rest _ _ _ seen in
    record {
      order = refl;
      arity = refl;
      same = less_multiple S g.met.K.Ring.ring _ _ _ _ _ _ _ c.neg-opposite.ensures whole
          (subst (λ (q : Terms S.Elem). Same S.arithmetic (map t c.loop-term.front.items
          ++ map t c.loop-term.back.items) (terms_in c.args.self ++ shift S.arithmetic
          c.args.factor.now.mono (g.K.Ring.meaning c.neg-opposite.result) q)) all
          c.loop-term.invariant.0.sum);
    }
