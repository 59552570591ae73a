use Rattle.std.proofs.Common.{◌≡◌, take}
use Rattle.poly.specs.Seen.{terms_each}
use Rattle.corollaries.specs.Rows.{ArePairsDivided}
use Rattle.task_lists.specs.Rows.{rows_of}
use Rattle.full_trace.specs.Rows.{AreRowsLike}
use Rattle.full_trace.proofs.divisors.Divisors.divide_pairs.Given as goal

abbrev pub invariant-loop-pair : goal.invariant-loop-pair
invariant-loop-pair g l =
    (l.meter.limit ≡ l.initial.meter.limit)
    × ArePairsDivided (g.O.Order.order l.self.order) (terms_each l.self.list.now)
    (take l.pair-index l.pairs) (rows_of l.rows.items)
    l.initial.meter.entries l.meter.entries
    × AreRowsLike l.self.order l.self.arity l.rows.items
