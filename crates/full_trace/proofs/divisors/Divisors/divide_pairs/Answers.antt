use Rattle.std.proofs.Common.{[], refl, sym, subst, ◌∙◌}
use Rattle.std.proofs.lemmas.List.{take_all, get_or_default}
use Rattle.std.proofs.lemmas.List.Elements.{All-nil, All-same}
use Rattle.poly.specs.Seen.{terms_each}
use Rattle.algebra.proofs.Lists.{have_more}
use Rattle.corollaries.specs.Rows.{ArePairsDivided}
use Rattle.task_lists.specs.Rows.{rows_of}
use Rattle.complete.specs.Completing.{AreLike}
use Rattle.full_trace.proofs.RowsMade.{passed}
use Rattle.full_trace.proofs.PairsMade.{pair_made, pair_refused, pair_lost}
use Rattle.full_trace.proofs.divisors.Divisors.divide_pairs.Goals as goal

pub loop-pair-init : goal.loop-pair-init
unfolding ArePairsDivided
loop-pair-init g c = (
  refl,
  subst (λ rows. ArePairsDivided (g.O.Order.order c.args.self.now.order)
      (terms_each c.args.self.now.list.now) []
      (rows_of rows) c.args.meter.now.entries c.args.meter.now.entries)
      (sym c.new-rows.ensures.items) refl,
  All-same (λ row. AreLike c.args.self.now.order c.args.self.now.arity row.items) _ []
      c.new-rows.ensures.items (All-nil (λ row. AreLike c.args.self.now.order c.args.self.now.arity
      row.items)),
)

pub loop-pair-preserved : goal.loop-pair-preserved
loop-pair-preserved g c =
    let i = c.loop-pair.invariant in
    let row = c.in_ok-row.row in (
      c.in_ok-row.ensures.limit ∙ i.0,
      pair_made
          c.args.pairs.now c.loop-pair.pair-index _ c.loop-pair-test.true
          (get_or_default _ _ _ _ c.loop-pair-test.true) c.loop-pair.rows.items _ c.loop-pair.meter
          i.1 row c.in_ok-row.ensures.divided c.push.new.self.items c.in_ok-push.ensures.items,
      have_more (λ row. AreLike c.args.self.now.order c.args.self.now.arity row.items) _ _ row
          c.in_ok-push.ensures.items i.2 c.in_ok-row.ensures.like,
    )

pub returns-in_err-row-clause-limit : goal.returns-in_err-row-clause-limit
returns-in_err-row-clause-limit g c = c.in_err-row.ensures.limit ∙ c.loop-pair.invariant.0

pub returns-in_err-row-clause-refused : goal.returns-in_err-row-clause-refused
returns-in_err-row-clause-refused g c =
    passed _ _ _ c.from_residual.ensures.1 (pair_refused c.args.pairs.now
    c.loop-pair.pair-index _ c.loop-pair-test.true (get_or_default _ _ _ _ c.loop-pair-test.true)
    c.loop-pair.rows.items _ c.loop-pair.meter c.loop-pair.invariant.1 _
    c.in_err-row.ensures.refused)

pub returns-in_err-push-clause-limit : goal.returns-in_err-push-clause-limit
returns-in_err-push-clause-limit g c = c.in_ok-row.ensures.limit ∙ c.loop-pair.invariant.0

pub returns-in_err-push-clause-refused : goal.returns-in_err-push-clause-refused
returns-in_err-push-clause-refused g c =
    passed _ _ _ c.from_residual-in_err-push.ensures.1 (pair_lost c.args.pairs.now
    c.loop-pair.pair-index _ c.loop-pair-test.true (get_or_default _ _ _ _ c.loop-pair-test.true)
    c.loop-pair.rows.items _ c.loop-pair.meter c.loop-pair.invariant.1
    (terms_each c.in_ok-row.row.items) c.divide_pair.new.meter c.in_ok-row.ensures.divided)

pub returns-clause-limit : goal.returns-clause-limit
returns-clause-limit g c = c.loop-pair.invariant.0

pub returns-clause-divided : goal.returns-clause-divided
returns-clause-divided g c =
    subst (λ ps. ArePairsDivided (g.O.Order.order c.args.self.now.order)
    (terms_each c.args.self.now.list.now) ps
    (rows_of c.loop-pair.rows.items) c.args.meter.now.entries c.loop-pair.meter.entries)
    (take_all _ _ c.loop-pair-test.false) c.loop-pair.invariant.1

pub returns-clause-like : goal.returns-clause-like
returns-clause-like g c = c.loop-pair.invariant.2
