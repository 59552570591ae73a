use Rattle.std.proofs.Common.{◌≤◌, []}
use Rattle.loop_text.specs.OpenBranch.{within}
use Rattle.loop_text.proofs.Answering.{rest, bytes_left, GoesOn, statements, loop_language, Before, between, behind}
use Rattle.loop_text.proofs.statements.read_statements.Given as goal

abbrev pub invariant-loop-alloc : goal.invariant-loop-alloc
invariant-loop-alloc l = record {
  falls : bytes_left l.at ≤ bytes_left l.fn.cursor;
  goes : (b : Before) → GoesOn loop_language statements (between l.names l.fn.unset.items l.fn.begun
      (behind b [])) (rest l.fn.cursor) statements (within l.branch l.begun b) (rest l.at);
}

abbrev pub decreases-loop-alloc : goal.decreases-loop-alloc
decreases-loop-alloc l = bytes_left l.at
