use Rattle.std.proofs.Common.{◌≡◌, ◌+◌, ◌≤◌, drop}
use Rattle.serde_json.specs.View.{items_view}
use Rattle.program_checker.specs.Form.{entries, most_entries}
use Rattle.program_checker.proofs.lists.are_few.Given as goal

abbrev pub invariant-loop-value : goal.invariant-loop-value
invariant-loop-value l = record {
  few : l.total ≤ most_entries;
  rest : entries (items_view l.list) ≡ l.total + entries (items_view (drop l.value-index l.list));
}
