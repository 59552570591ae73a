use Rattle.std.proofs.Common.{◌≡◌, ◌≤◌, ◌++◌, suc}
use Rattle.task_lists.proofs.Places.{pairs_from}
use Rattle.task_lists.proofs.lists.push_pairs.Given as goal

abbrev pub invariant-loop-right : goal.invariant-loop-right
invariant-loop-right l = record {
  above : suc l.left ≤ l.right;
  within : l.right ≤ l.count;
  items : l.pairs.items ≡ l.fn.pairs.items ++ pairs_from l.right l.left;
}
