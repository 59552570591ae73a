use Rattle.std.proofs.Common.{◌≤◌, []}
use Rattle.program_text.specs.GuardReads.{with_text}
use Rattle.program_text.proofs.GuardReads.{items_due}
use Rattle.program_text.specs.Programs.{guard}
use Rattle.program_text.proofs.Answering.{behind, items, bytes_left, GoesOn, ProgramState, program_language}
use Rattle.program_text.proofs.guards.read_guard_text.Given as goal

abbrev pub invariant-loop-at : goal.invariant-loop-at
invariant-loop-at l = record {
  falls : bytes_left l.at ≤ bytes_left l.fn.cursor;
  goes : (s : ProgramState) → GoesOn program_language guard (with_text [] s) (behind l.fn.cursor)
      items_due (with_text l.text.items s) (items l.at);
}

abbrev pub decreases-loop-at : goal.decreases-loop-at
decreases-loop-at l = bytes_left l.at
