use Rattle.std.proofs.Common.{◌≡◌, ◌∷◌, ◌++◌, [], length, arith, sym, ap, ap₂, ◌∙◌}
use Rattle.std.proofs.lemmas.List.{length_push}
use Rattle.algebra.proofs.Lists.{take_one}
use Rattle.poly.proofs.sums.copies.Goals as goal

pub loop-term-init : goal.loop-term-init
loop-term-init g c =
    let none : length c.in_ok-out.out.items ≡ 0 = ap length c.in_ok-out.ensures.items in
    let room = c.in_ok-out.ensures.capacity in (
      c.in_ok-out.ensures.items,
      omega (arith, none, room),
    )

pub loop-term-preserved : goal.loop-term-preserved
loop-term-preserved g c =
    let fits = c.loop-term.invariant.1 in
    let more = c.loop-term-test.true in
    let count = ap length c.push_reserved.ensures.items ∙ length_push _ _ in
    let room = c.push_reserved.ensures.capacity in (
      c.push_reserved.ensures.items
          ∙ ap₂ (λ ts m. ts ++ record { mono = m; coef = c.term-item.result.coef } ∷ [])
          c.loop-term.invariant.0 c.in_ok-mono.ensures.ok
          ∙ sym (take_one _ _ _ c.loop-term-test.true c.term-item.is),
      omega (arith, fits, more, count, room),
    )
