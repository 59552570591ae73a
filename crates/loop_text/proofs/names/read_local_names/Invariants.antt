use Rattle.std.proofs.Common.{◌≡◌, ◌≤◌, [], ◌++◌, length}
use Rattle.loop_text.specs.Loops.{local_name}
use Rattle.loop_text.proofs.Answering.{sequence, rest, bytes_left, GoesOn, comma_list, sign, loop_language, with_names}
use Rattle.loop_text.proofs.names.read_local_names.Given as goal

abbrev pub invariant-loop-names : goal.invariant-loop-names
invariant-loop-names l = record {
  goes : GoesOn loop_language (sequence (comma_list local_name) (sign 59))
      (with_names l.fn.names.variables []) (rest l.fn.cursor) (sequence (comma_list local_name)
      (sign 59)) (with_names l.fn.names.variables l.names.locals) (rest l.at);
  all : l.names.all ≡ l.names.variables ++ l.names.locals;
  variables : l.names.variables ≡ l.fn.names.variables;
  few : length l.names.locals ≤ 12;
}

abbrev pub decreases-loop-names : goal.decreases-loop-names
decreases-loop-names l = bytes_left l.at
