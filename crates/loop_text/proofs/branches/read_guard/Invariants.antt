use Rattle.std.proofs.Common.{◌≤◌}
use Rattle.loop_text.proofs.GuardReads.{items_due}
use Rattle.loop_text.proofs.Answering.{sequence, rest, items, bytes_left, GoesOn, LoopState, guard, sign, loop_language}
use Rattle.loop_text.proofs.branches.read_guard.Given as goal

abbrev pub invariant-loop-at : goal.invariant-loop-at
invariant-loop-at l = record {
  falls : bytes_left l.at ≤ bytes_left l.fn.cursor;
  goes : (s : LoopState) → GoesOn loop_language (sequence guard (sign 123)) s (rest l.fn.cursor)
      items_due s (items l.at);
}

abbrev pub decreases-loop-at : goal.decreases-loop-at
decreases-loop-at l = bytes_left l.at
