use Rattle.std.proofs.Common.{◌≤◌, [], ℕ}
use Rattle.program_text.proofs.Answering.{sequence, rest, bytes_left, GoesOn, ProgramValue, comma_list, sign, target, targets, program_language, at_statement, in_set}
use Rattle.program_text.proofs.assignments.Reader.targets.Given as goal

abbrev pub invariant-loop-targets : goal.invariant-loop-targets
invariant-loop-targets l = record {
  falls : bytes_left l.at ≤ bytes_left l.fn.cursor;
  goes : (n d : ℕ) (w : ProgramValue)
      → GoesOn program_language targets (at_statement l.fn.self.names.now n d w) (rest l.fn.cursor)
      (sequence (comma_list target) (sign 41)) (in_set l.fn.self.names.now n d w l.targets.items []
      [])
      (rest l.at);
}

abbrev pub decreases-loop-targets : goal.decreases-loop-targets
decreases-loop-targets l = bytes_left l.at
