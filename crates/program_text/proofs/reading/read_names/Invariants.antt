use Rattle.std.proofs.Common.{◌≤◌}
use Rattle.program_text.specs.Programs.{names, declared_name, nothing}
use Rattle.program_text.specs.States.{named_so}
use Rattle.program_text.proofs.Answering.{sequence, rest, bytes_left, GoesOn, comma_list, sign, program_language}
use Rattle.program_text.proofs.reading.read_names.Given as goal

abbrev pub invariant-loop-names : goal.invariant-loop-names
invariant-loop-names l = record {
  falls : bytes_left l.at ≤ bytes_left l.fn.cursor;
  goes : GoesOn program_language names nothing (rest l.fn.cursor)
      (sequence (comma_list declared_name) (sign 59)) (named_so l.names) (rest l.at);
}

abbrev pub decreases-loop-names : goal.decreases-loop-names
decreases-loop-names l = bytes_left l.at
