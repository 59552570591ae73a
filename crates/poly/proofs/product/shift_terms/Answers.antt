use Rattle.std.proofs.Common.{◌≡◌, length, arith, ap, map, ◌∙◌, refl}
use Rattle.std.proofs.lemmas.List.{map-append, length_push}
use Rattle.std.proofs.lemmas.Result.{err_from_is_err_and}
use Rattle.poly.specs.View.{term_of}
use Rattle.algebra.proofs.Lists.{at_index, take_next}
use Rattle.poly.proofs.Steps.{shift_fits_at, begin_shift, step_shift}
use Rattle.poly.proofs.product.shift_terms.Goals as goal

pub loop-term-init : goal.loop-term-init
loop-term-init g c =
    let none : length c.in_ok-out.out.items ≡ 0 = ap length c.in_ok-out.ensures.items in
    let room = c.in_ok-out.ensures.capacity in (
      begin_shift g.K.Ring.scalars g.met.K.Ring.ring _ _
          (ap (map (term_of g.K.Ring.meaning)) c.in_ok-out.ensures.items),
      omega (arith, none, room),
    )

pub loop-term-preserved : goal.loop-term-preserved
loop-term-preserved g c =
    let t = term_of g.K.Ring.meaning in
    let fits = c.loop-term.invariant.1 in
    let more = c.loop-term-test.true in
    let count = ap length c.push_reserved.ensures.items ∙ length_push _ _ in
    let room = c.push_reserved.ensures.capacity in (
      step_shift g.K.Ring.scalars g.met.K.Ring.ring _ _ _ _ _ _ _
          (take_next t _ _ _ c.loop-term-test.true c.term-item.is)
          (ap (map t) c.push_reserved.ensures.items ∙ map-append t _ _) c.in_ok-mono.ensures.ok refl
          c.loop-term.invariant.0,
      omega (arith, fits, more, count, room),
    )

pub returns-in_err-mono-clause-wide : goal.returns-in_err-mono-clause-wide
returns-in_err-mono-clause-wide g c =
    let p = err_from_is_err_and c.from_residual-in_err-mono.result
    c.from_residual-in_err-mono.ensures.1 in
    λ w fits. c.in_err-mono.ensures.wide (cc (p.1, p.2))
    (shift_fits_at _ _ _ _ _ (at_index (term_of g.K.Ring.meaning) _ _ _ c.loop-term-test.true
    c.term-item.is) fits)
