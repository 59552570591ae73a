use Rattle.std.proofs.Common.{◌≡◌, ◌≤◌, [], length}
use Rattle.loop_text.proofs.Answering.{sequence, rest, bytes_left, GoesOn, comma_list, declared_name, names, nothing, sign, loop_language, with_names}
use Rattle.loop_text.proofs.names.read_names.Given as goal

abbrev pub invariant-loop-all : goal.invariant-loop-all
invariant-loop-all l = record {
  goes : GoesOn loop_language names nothing (rest l.fn.cursor) (sequence (comma_list declared_name)
      (sign 59)) (with_names l.variables []) (rest l.at);
  all : l.all ≡ l.variables;
  few : length l.variables ≤ 12;
}

abbrev pub decreases-loop-all : goal.decreases-loop-all
decreases-loop-all l = bytes_left l.at
