use Rattle.std.proofs.Common.{◌≡◌, ◌≤◌}
use Rattle.task_lists.proofs.Places.{pairs_to}
use Rattle.task_lists.proofs.lists.all_pairs.Given as goal

abbrev pub invariant-loop-left : goal.invariant-loop-left
invariant-loop-left l = record {
  within : l.left ≤ l.count;
  items : l.pairs.items ≡ pairs_to l.count l.left;
}
