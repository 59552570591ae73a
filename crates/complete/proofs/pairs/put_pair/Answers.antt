use Rattle.std.proofs.Common.{◌≡◌, subst, ◌∙◌}
use Rattle.std.specs.List.{insert}
use Rattle.complete.specs.Pairs.{keys, enter}
use Rattle.complete.proofs.Entering.{enter_insert}
use Rattle.complete.proofs.pairs.put_pair.Goals as goal

pub returns : goal.returns
returns g c = record {
  list =
      let R = keys (g.O.Order.order c.args.order) c.args.mixed in
      let p = c.place_of-place.result in
      c.in_ok-insert.ensures.items
      ∙ subst (λ xs. insert xs p c.args.pair ≡ enter R c.args.pair xs) c.deref.ensures.value
      (enter_insert R c.args.pair c.deref.result.now p c.place_of-place.ensures.below
      c.place_of-place.ensures.above);
}
