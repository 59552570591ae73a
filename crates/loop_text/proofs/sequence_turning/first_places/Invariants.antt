use Rattle.std.proofs.Common.{◌≡◌, take}
use Rattle.loop_text.specs.LoopLayout.{total, starts}
use Rattle.loop_text.proofs.sequence_turning.first_places.Given as goal

abbrev pub invariant-loop-order : goal.invariant-loop-order
invariant-loop-order l = record {
  places : l.places.items ≡ starts 0 (take l.order-index l.orders);
  var : l.var ≡ total (take l.order-index l.orders);
}
