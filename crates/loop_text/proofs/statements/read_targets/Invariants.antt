use Rattle.std.proofs.Common.{◌≤◌, [], ℕ, List}
use Rattle.loop_text.proofs.Answering.{sequence, rest, bytes_left, GoesOn, Begun, comma_list, sign, target, targets, loop_language, Before, between, in_statement}
use Rattle.loop_text.proofs.statements.read_targets.Given as goal

abbrev pub invariant-loop-targets : goal.invariant-loop-targets
invariant-loop-targets l = record {
  falls : bytes_left l.at ≤ bytes_left l.fn.cursor;
  goes : (us : List ℕ) (n : Begun) (b : Before)
      → GoesOn loop_language targets (between l.names us n b) (rest l.fn.cursor)
      (sequence (comma_list target) (sign 41)) (in_statement l.names us n b l.targets.items [])
      (rest l.at);
}

abbrev pub decreases-loop-targets : goal.decreases-loop-targets
decreases-loop-targets l = bytes_left l.at
