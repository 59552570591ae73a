use Rattle.std.proofs.Common.{ap, ◌∙◌}
use Rattle.std.specs.Ordering.{is_gt}
use Rattle.complete.proofs.Mixed.{mixes_zero, mixes_is}
use Rattle.complete.proofs.order_kind.mixes_degrees.Goals as goal

pub returns-then-arity-eq0 : goal.returns-then-arity-eq0
returns-then-arity-eq0 g c = record {
  ok = λ few. mixes_zero (g.O.Order.order c.args.order) c.args.arity
      c.if-arity-eq0.true;
}

pub returns : goal.returns
returns g c = record {
  ok = λ few. mixes_is (g.O.Order.order c.args.order) c.args.arity _ _ _
      c.in_ok-first.ensures.ok c.in_ok-square.ensures.ok (c.is_gt.ensures
      ∙ ap is_gt c.compare.ensures);
}
