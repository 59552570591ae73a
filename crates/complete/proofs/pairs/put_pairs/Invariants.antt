use Rattle.std.proofs.Common.{◌≡◌, ◌≤◌, ◌++◌, length, reverse}
use Rattle.complete.specs.Pairs.{keys, waiting_pairs, HaveVariables}
use Rattle.complete.proofs.Entering.{IsOnItsWay}
use Rattle.complete.proofs.pairs.put_pairs.Given as goal

abbrev pub invariant-loop-pair : goal.invariant-loop-pair
invariant-loop-pair g l =
    (l.queue.mixed ≡ l.initial.queue.mixed) × (l.queue.table ≡ l.initial.queue.table)
    × (l.queue.taken ≤ length l.queue.pairs.items)
    × HaveVariables (waiting_pairs l.queue ++ l.news.items)
    × IsOnItsWay (keys (g.O.Order.order l.order) l.initial.queue.mixed) l.initial.news.items
    (waiting_pairs l.initial.queue) l.news.items (waiting_pairs l.queue) (reverse l.later.items)

abbrev pub decreases-loop-pair : goal.decreases-loop-pair
decreases-loop-pair g l = length l.news.items
