use Rattle.std.proofs.Common.{◌≡◌, ◌-◌, ◌≤◌, length, take}
use Rattle.poly_text.specs.CursorView.{rest}
use Rattle.loop_text.specs.LoopLayout.{total}
use Rattle.loop_text.specs.Standing.{AreTokens}
use Rattle.loop_text.proofs.NextReads.{IsGoing}
use Rattle.loop_text.proofs.sequence_nexts.read_nexts.Given as goal

abbrev pub invariant-loop-index : goal.invariant-loop-index
invariant-loop-index l = record {
  going : IsGoing l.firsts l.fn.cursor l.index l.iteration.items l.at;
  first : l.first ≡ total (take l.index l.firsts.orders.items);
  within : l.index ≤ length l.firsts.orders.items;
  tokens : AreTokens l.text (rest l.at);
}

abbrev pub decreases-loop-index : goal.decreases-loop-index
decreases-loop-index l = length l.firsts.orders.items - l.index
