use Rattle.std.proofs.Common.{◌≤◌, []}
use Rattle.loop_text.proofs.Answering.{some, rest, bytes_left, GoesOn, branch, loop_language, Inits, in_branches, branches_of}
use Rattle.loop_text.proofs.branches.read_branches.Given as goal

abbrev pub invariant-loop-branches : goal.invariant-loop-branches
invariant-loop-branches l = record {
  falls : bytes_left l.at ≤ bytes_left l.fn.cursor;
  goes : (init : Inits)
      → GoesOn loop_language (some branch) (in_branches l.names.variables l.names.locals l.fn.begun
      init []) (rest l.fn.cursor) (some branch) (in_branches l.names.variables l.names.locals
      l.begun init (branches_of l.branches.items)) (rest l.at);
}

abbrev pub decreases-loop-branches : goal.decreases-loop-branches
decreases-loop-branches l = bytes_left l.at
