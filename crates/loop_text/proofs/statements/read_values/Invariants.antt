use Rattle.std.proofs.Common.{◌≡◌, ◌≤◌, ℕ, List, [], length, map}
use Rattle.loop_text.proofs.Answering.{expr_of, rest, bytes_left, GoesOn, Begun, values, value_list, loop_language, Before, in_statement}
use Rattle.loop_text.proofs.statements.read_values.Given as goal

abbrev pub invariant-loop-values : goal.invariant-loop-values
invariant-loop-values l = record {
  falls : bytes_left l.at ≤ bytes_left l.fn.cursor;
  goes : (n : Begun) (b : Before) (is : List ℕ) → length is ≡ l.count
      → GoesOn loop_language values (in_statement l.names l.unset n b is []) (rest l.fn.cursor)
      value_list (in_statement l.names l.unset n b is (map expr_of l.values.items)) (rest l.at);
}

abbrev pub decreases-loop-values : goal.decreases-loop-values
decreases-loop-values l = bytes_left l.at
