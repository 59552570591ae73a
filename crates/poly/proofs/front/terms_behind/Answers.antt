use Rattle.std.proofs.Common.{◌≡◌, ◌++◌, length, arith, refl, ap, map, ◌∙◌}
use Rattle.std.proofs.lemmas.List.{map-append, take_all, length_push}
use Rattle.polynomials.specs.Terms.{retold}
use Rattle.poly.specs.View.{term_of, terms_of}
use Rattle.poly.proofs.Retelling.{begin_retold, step_retold}
use Rattle.algebra.proofs.Lists.{take_next}
use Rattle.poly.proofs.front.terms_behind.Goals as goal

pub loop-term-init : goal.loop-term-init
loop-term-init g c =
    let none : length c.in_ok-out.out.items ≡ 0 = ap length c.in_ok-out.ensures.items in
    let room = c.in_ok-out.ensures.capacity in (
      begin_retold _ _ (ap (map (term_of g.K.Ring.meaning)) c.in_ok-out.ensures.items),
      omega (arith, none, room),
    )

pub loop-term-preserved : goal.loop-term-preserved
loop-term-preserved g c =
    let t = term_of g.K.Ring.meaning in
    let fits = c.loop-term.invariant.1 in
    let more = c.loop-term-test.true in
    let count = ap length c.push_reserved.ensures.items ∙ length_push _ _ in
    let room = c.push_reserved.ensures.capacity in (
      step_retold _ _ _ _ _ _ _ (take_next t _ _ _ c.loop-term-test.true c.term-item.is)
          (ap (map t) c.push_reserved.ensures.items ∙ map-append t _ _) c.in_ok-mono.ensures.ok refl
          c.loop-term.invariant.0,
      omega (arith, fits, more, count, room),
    )

pub returns : goal.returns
returns g c = record {
  ok = c.loop-term.invariant.0
      ∙ ap (λ ts. retold (λ e. c.args.front.now ++ e) (terms_of g.K.Ring.meaning ts))
      (take_all _ _ c.loop-term-test.false);
}
