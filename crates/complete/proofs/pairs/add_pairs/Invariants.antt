use Rattle.std.proofs.Common.{◌≡◌, ◌<◌, ◌++◌, ◌∷◌, [], not, length, map, take, drop}
use Rattle.std.specs.List.{All}
use Rattle.machines.specs.Pairs.{coprime, with_new}
use Rattle.complete.specs.Pairs.{pair_of, keys, enters, waiting_pairs}
use Rattle.complete.proofs.Putting.{Kept}
use Rattle.complete.proofs.pairs.add_pairs.Given as goal

abbrev pub invariant-loop-k : goal.invariant-loop-k
invariant-loop-k g l =
    let ls = l.leads ++ l.lead ∷ [] in
    let ss = l.sugars ++ l.sugar ∷ [] in
    let O = g.O.Order.order l.order in
    let news = l.news.items in
    Kept O l.queue.mixed ls ss news × All (λ a. a.parts.value.left < l.k) news
    × (with_new O ls ss (length l.leads) l.lead l.leads 0 (map pair_of (waiting_pairs l.queue))
    ≡ with_new O ls ss (length l.leads) l.lead (drop l.k l.leads) l.k
    (map pair_of (enters (keys O l.queue.mixed) news (waiting_pairs l.queue))))
    × (l.row.items ≡ map (λ e. not (coprime e l.lead)) (take l.k l.leads))
