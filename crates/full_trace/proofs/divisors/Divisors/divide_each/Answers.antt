use Rattle.std.proofs.Common.{[], refl, sym, subst, ◌∙◌}
use Rattle.std.proofs.lemmas.List.{take_all}
use Rattle.std.proofs.lemmas.List.Elements.{All-nil, All-same}
use Rattle.poly.specs.Seen.{terms_each}
use Rattle.algebra.proofs.Lists.{have_more}
use Rattle.corollaries.specs.Rows.{AreDivided}
use Rattle.task_lists.specs.Rows.{rows_of}
use Rattle.complete.specs.Completing.{AreLike}
use Rattle.full_trace.proofs.RowsMade.{passed, row_made, row_like, row_refused, row_lost}
use Rattle.full_trace.proofs.divisors.Divisors.divide_each.Goals as goal

pub loop-dividend-init : goal.loop-dividend-init
unfolding AreDivided
loop-dividend-init g c = (
  refl,
  subst (λ rows. AreDivided (g.O.Order.order c.args.self.now.order)
      (terms_each c.args.self.now.list.now) []
      (rows_of rows) c.args.meter.now.entries c.args.meter.now.entries)
      (sym c.new-rows.ensures.items) refl,
  All-same (λ row. AreLike c.args.self.now.order c.args.self.now.arity row.items) _ []
      c.new-rows.ensures.items (All-nil (λ row. AreLike c.args.self.now.order c.args.self.now.arity
      row.items)),
)

pub loop-dividend-preserved : goal.loop-dividend-preserved
loop-dividend-preserved g c =
    let i = c.loop-dividend.invariant in
    let d = c.in_ok-division.division in (
      c.in_ok-division.ensures.ran.limit ∙ i.0,
      row_made c.args.self.now.list.now _
          c.requires.dividends c.loop-dividend.dividend-index c.dividend-item.result
          c.loop-dividend-test.true c.dividend-item.is c.loop-dividend.rows.items _
          c.loop-dividend.meter c.divide.new.meter i.1 d c.in_ok-division.ensures.ran
          c.push.new.self.items c.in_ok-push.ensures.items,
      have_more (λ row. AreLike c.args.self.now.order c.args.self.now.arity row.items) _ _ _
          c.in_ok-push.ensures.items i.2
          (row_like c.args.self.now.list.now _ c.requires.dividends c.loop-dividend.dividend-index
          c.dividend-item.result c.loop-dividend-test.true c.dividend-item.is
          c.loop-dividend.rows.items _ c.loop-dividend.meter c.divide.new.meter i.1 d
          c.in_ok-division.ensures.ran),
    )

pub returns-in_err-division-clause-limit : goal.returns-in_err-division-clause-limit
returns-in_err-division-clause-limit g c =
    c.in_err-division.ensures.ran.limit ∙ c.loop-dividend.invariant.0

pub returns-in_err-division-clause-refused : goal.returns-in_err-division-clause-refused
returns-in_err-division-clause-refused g c =
    passed _ _ _ c.from_residual.ensures.1 (row_refused c.args.self.now.list.now _
    c.requires.dividends c.loop-dividend.dividend-index c.dividend-item.result
    c.loop-dividend-test.true c.dividend-item.is c.loop-dividend.rows.items _ c.loop-dividend.meter
    c.divide.new.meter c.loop-dividend.invariant.1 _ c.in_err-division.ensures.ran)

pub returns-in_err-push-clause-limit : goal.returns-in_err-push-clause-limit
returns-in_err-push-clause-limit g c =
    c.in_ok-division.ensures.ran.limit ∙ c.loop-dividend.invariant.0

pub returns-in_err-push-clause-refused : goal.returns-in_err-push-clause-refused
returns-in_err-push-clause-refused g c =
    passed _ _ _ c.from_residual-in_err-push.ensures.1 (row_lost c.args.self.now.list.now
    _ c.requires.dividends c.loop-dividend.dividend-index c.dividend-item.result
    c.loop-dividend-test.true c.dividend-item.is c.loop-dividend.rows.items _ c.loop-dividend.meter
    c.divide.new.meter c.loop-dividend.invariant.1 c.in_ok-division.division
    c.in_ok-division.ensures.ran)

pub returns-clause-limit : goal.returns-clause-limit
returns-clause-limit g c = c.loop-dividend.invariant.0

pub returns-clause-divided : goal.returns-clause-divided
returns-clause-divided g c =
    subst (λ ps. AreDivided (g.O.Order.order c.args.self.now.order)
    (terms_each c.args.self.now.list.now) (terms_each ps) (rows_of c.loop-dividend.rows.items)
    c.args.meter.now.entries c.loop-dividend.meter.entries)
    (take_all _ _ c.loop-dividend-test.false) c.loop-dividend.invariant.1

pub returns-clause-like : goal.returns-clause-like
returns-clause-like g c = c.loop-dividend.invariant.2
