use Rattle.std.proofs.Common.{◌≡◌, suc, ◌+◌, ◌-◌, ◌/◌, true, false, take, drop, sym, ap, subst, ◌∙◌, arith}
use Rattle.std.specs.List.{All}
use Rattle.std.specs.Ordering.{is_lt}
use Rattle.complete.specs.Pairs.{keys}
use Rattle.complete.proofs.Placing.{keys_total, all_above, all_below, is_lt_not}
use Rattle.complete.proofs.pairs.place_of.Goals as goal

pub loop-low-preserved-in-Less : goal.loop-low-preserved-in-Less
loop-low-preserved-in-Less g c =
    let O = g.O.Order.order c.args.order in
    let i = c.loop-low.invariant in
    let low = i.0 in
    let high = i.1 in
    let l = c.loop-low-test.true in
    let m = c.loop-low.low + (c.loop-low.high - c.loop-low.low) / 2 in
    let above = ap is_lt (sym c.compare.ensures ∙ c.in-Less.is) in (
      omega arith,
      omega (arith, high, l),
      i.2,
      all_above (keys O c.args.mixed) (keys_total O c.args.mixed) c.args.pair.now c.args.list.now m
          c.index-list-middle.result (omega (arith, high, l)) c.index-list-middle.is above
          c.requires.in_order,
    )

pub loop-low-preserved : goal.loop-low-preserved
loop-low-preserved g c =
    let O = g.O.Order.order c.args.order in
    let i = c.loop-low.invariant in
    let high = i.1 in
    let l = c.loop-low-test.true in
    let m = c.loop-low.low + (c.loop-low.high - c.loop-low.low) / 2 in
    let below = ap is_lt (sym c.compare.ensures)
    ∙ is_lt_not c.compare.result c.in_default.not-Less in (
      omega (arith, l),
      high,
      subst (λ k. All (λ b. is_lt (keys O c.args.mixed c.args.pair.now b) ≡ false)
          (take k c.args.list.now)) (let q : suc m ≡ m + 1 = omega arith in q)
          (all_below (keys O c.args.mixed) (keys_total O c.args.mixed) c.args.pair.now
          c.args.list.now m c.index-list-middle.result (omega (arith, high, l))
          c.index-list-middle.is below c.requires.in_order),
      i.3,
    )

pub returns-clause-above : goal.returns-clause-above
returns-clause-above g c =
    let O = g.O.Order.order c.args.order in
    let i = c.loop-low.invariant in
    let low = i.0 in
    let e = c.loop-low-test.false in
    subst (λ k. All (λ b. is_lt (keys O c.args.mixed c.args.pair.now b) ≡ true)
    (drop k c.args.list.now)) (let q : c.loop-low.high ≡ c.loop-low.low =
    omega (arith, low, e) in q) i.3
