use Rattle.std.proofs.Common.{◌≤◌, ◌+◌, ◌*◌}
use Rattle.program_model.specs.Program.{empty}
use Rattle.program_text.specs.Programs.{statements}
use Rattle.program_text.proofs.Answering.{rest, bytes_left, GoesOn, ProgramValue, program_language, at_statement, with_block, block_of}
use Rattle.program_text.proofs.assignments.Reader.+statement.Given as goal

abbrev pub decreases-block : goal.decreases-block
decreases-block l = 8 * bytes_left l.cursor

abbrev pub decreases-other_way : goal.decreases-other_way
decreases-other_way l = 8 * bytes_left l.cursor

abbrev pub decreases-while_loop : goal.decreases-while_loop
decreases-while_loop l = 8 * bytes_left l.cursor

abbrev pub decreases-if_statement : goal.decreases-if_statement
decreases-if_statement l = 8 * bytes_left l.cursor

abbrev pub decreases-for_loop : goal.decreases-for_loop
decreases-for_loop l = 8 * bytes_left l.cursor

abbrev pub decreases-statement : goal.decreases-statement
decreases-statement l = 8 * bytes_left l.cursor + 1

abbrev pub decreases-statements : goal.decreases-statements
decreases-statements l = 8 * bytes_left l.cursor + 2

abbrev pub invariant-statements-loop-at : goal.invariant-statements-loop-at
invariant-statements-loop-at l = record {
  falls : bytes_left l.at ≤ bytes_left l.fn.cursor;
  goes : (w : ProgramValue)
      → GoesOn program_language statements (at_statement l.fn.self.names.now l.fn.begun l.fn.depth
      (with_block empty w)) (rest l.fn.cursor) statements
      (at_statement l.fn.self.names.now l.begun l.fn.depth
      (with_block (block_of l.statements.items) w)) (rest l.at);
}

abbrev pub decreases-statements-loop-at : goal.decreases-statements-loop-at
decreases-statements-loop-at l = bytes_left l.at
