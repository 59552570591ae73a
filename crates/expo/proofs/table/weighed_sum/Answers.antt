use Rattle.std.proofs.Common.{refl, ap, ◌∙◌, arith}
use Rattle.algebra.specs.Fraction.{ℚ}
use Rattle.expo.specs.Numbers.{number_at}
use Rattle.expo.specs.Rows.{coefficient}
use Rattle.expo.proofs.Tables.{summed_first, summed_next, number_here, past_product, past_total}
use Rattle.expo.proofs.table.weighed_sum.Goals as goal

pub loop-place-init : goal.loop-place-init
loop-place-init c = summed_first _ c.args.row c.args.before _ _ _ refl c.requires.given
    c.zero-total.ensures

pub returns-in_err-coefficient-clause-wide : goal.returns-in_err-coefficient-clause-wide
returns-in_err-coefficient-clause-wide c =
    let a = c.loop-place.invariant.after in
    let t = c.loop-place-test.true in
    λ e. coefficient c.loop-place.place a (omega (arith, a, t)) (c.in_err-coefficient.ensures.wide
    refl)

pub returns-in_err-mul-clause-wide : goal.returns-in_err-mul-clause-wide
returns-in_err-mul-clause-wide c =
    let a = c.loop-place.invariant.after in
    let t = c.loop-place-test.true in
    λ e. past_product (number_at c.args.numbers.now) c.args.row _ _ c.loop-place.place _ _ a
    (omega (arith, a, t)) c.in_ok-coefficient.ensures.ok
    (number_here c.args.numbers.now c.loop-place.place _ t c.index-numbers-place.is)
    (c.in_err-mul.ensures.wide.0 refl)

pub returns-in_err-total-clause-wide : goal.returns-in_err-total-clause-wide
returns-in_err-total-clause-wide c =
    let a = c.loop-place.invariant.after in
    let t = c.loop-place-test.true in
    λ e. past_total (number_at c.args.numbers.now) c.args.row c.args.before c.loop-place.place _ _ _
    _ _ c.loop-place.invariant (omega (arith, a, t)) c.in_ok-coefficient.ensures.ok
    (c.in_ok-mul.ensures.ok ∙ ap (ℚ.mul _) (number_here c.args.numbers.now c.loop-place.place _ t
    c.index-numbers-place.is)) (c.in_err-total.ensures.wide.0 refl)

pub loop-place-preserved : goal.loop-place-preserved
loop-place-preserved c =
    let t = c.loop-place-test.true in
    summed_next (number_at c.args.numbers.now) c.args.row c.args.before c.loop-place.place _ _ _ _ _
    c.in_ok-coefficient.ensures.ok
    (c.in_ok-mul.ensures.ok ∙ ap (ℚ.mul _) (number_here c.args.numbers.now c.loop-place.place _ t
    c.index-numbers-place.is)) c.in_ok-total.ensures.ok c.loop-place.invariant
