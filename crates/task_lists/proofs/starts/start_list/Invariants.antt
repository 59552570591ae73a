use Rattle.std.proofs.Common.{◌≡◌, ◌≤◌, length}
use Rattle.poly.specs.Seen.{terms_each}
use Rattle.task_lists.specs.Starts.{AreOver}
use Rattle.loop_model.specs.View.{program_of}
use Rattle.task_lists.proofs.LoopsStarts.{starts_to}
use Rattle.task_lists.proofs.starts.start_list.Given as goal

abbrev pub invariant-loop-index : goal.invariant-loop-index
invariant-loop-index l = record {
  within : l.index ≤ length l.values;
  list : terms_each l.list.items ≡ starts_to (program_of l.lp) l.index;
  arity : AreOver (length (program_of l.lp).names) l.list.items;
  few : length l.list.items ≤ l.index;
}
