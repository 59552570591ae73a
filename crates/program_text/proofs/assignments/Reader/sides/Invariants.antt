use Rattle.std.proofs.Common.{◌≡◌, ◌≤◌, ℕ, List, [], length, map}
use Rattle.program_text.proofs.Answering.{expr_of, divisor_of, rest, bytes_left, GoesOn, ProgramValue, values, value_list, program_language, in_set}
use Rattle.program_text.proofs.assignments.Reader.sides.Given as goal

abbrev pub invariant-loop-values : goal.invariant-loop-values
invariant-loop-values l = record {
  falls : bytes_left l.at ≤ bytes_left l.fn.cursor;
  goes : (n d : ℕ) (w : ProgramValue) (is : List ℕ) → length is ≡ l.count
      → GoesOn program_language values (in_set l.fn.self.names.now n d w is [] [])
      (rest l.fn.cursor) value_list
      (in_set l.fn.self.names.now n d w is (map expr_of l.values.items)
      (map divisor_of l.divisors.items)) (rest l.at);
}

abbrev pub decreases-loop-values : goal.decreases-loop-values
decreases-loop-values l = bytes_left l.at
