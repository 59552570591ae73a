use Rattle.std.proofs.Common.{◌≡◌, take}
use Rattle.poly.specs.Seen.{terms_each}
use Rattle.corollaries.specs.Rows.{AreDivided}
use Rattle.task_lists.specs.Rows.{rows_of}
use Rattle.full_trace.specs.Rows.{AreRowsLike}
use Rattle.full_trace.proofs.divisors.Divisors.divide_each.Given as goal

abbrev pub invariant-loop-dividend : goal.invariant-loop-dividend
invariant-loop-dividend g l =
    (l.meter.limit ≡ l.initial.meter.limit)
    × AreDivided (g.O.Order.order l.self.order) (terms_each l.self.list.now)
    (terms_each (take l.dividend-index l.dividends)) (rows_of l.rows.items)
    l.initial.meter.entries l.meter.entries
    × AreRowsLike l.self.order l.self.arity l.rows.items
